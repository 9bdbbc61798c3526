-- A joint stands for one moment, one call or one event more.
use Rattle.std.proofs.Common.{◌≡◌, ℕ, ◌+◌, List, [], ◌∷◌, ◌++◌, length, map, take, refl, sym, ap, subst, ◌∙◌, append_assoc}
use Rattle.std.specs.Prelude.{Result, Ok, Err}
use Rattle.std.proofs.lemmas.List.{append-nil, map-append}
use Rattle.std.proofs.lemmas.List.Concat.{flat_map-append}
use Rattle.tesla_base.specs.declared.names.Key.{Key}
use Rattle.tesla_fitting.specs.declared.config.Config.{Config}
use Rattle.tesla_fitting.specs.declared.verdict.Verdict.{Verdict}
use Rattle.tesla_commit.specs.Parts.{Parts}
use Rattle.tesla_frame.specs.Frame.{Frame, IsFrame}
use Rattle.tesla_receiver.specs.History.{Arrives, Event, IsLegal, arrival_in, arrivals_in, entry_of}
use Rattle.tesla_receiver.specs.Stands.{Stands}
use Rattle.tesla_receiver.specs.Entries.{Entry}
use Rattle.tesla_receiver.specs.declared.history.Entry.TheVariants.{Arrived}
use Rattle.tesla_sender.specs.Made.{Call, Disclose, Message, Stream, frame_in, made_disclosure, made_message, reading_of}
use Rattle.tesla_sender.specs.Stands as sending
use Rattle.tesla_sender.specs.declared.refusal.DiscloseRefusal.{DiscloseRefusal}
use Rattle.tesla_sender.specs.declared.refusal.SendRefusal.{SendRefusal}
use Rattle.tesla_state.specs.State.{State}
use Rattle.tesla_world.specs.Joint.{HasCome, HasHad, HasSent, IsLawful, JointState, StandsFor, bytes_of}
use Rattle.tesla_world.specs.Laws.{FutureLaw, HonestCompleteness, SecurityCondition}
use Rattle.tesla_world.specs.World.{AreSentFor, Received, Dated, IsSentFor, Joined, Moment, Sent, received_at, received_in, dated_of, sent_at, sent_in}

-- the laws hold of each world that a joint stands for
pub joint_lawful : SecurityCondition → HonestCompleteness → FutureLaw → (joint : JointState) → IsLawful joint
unfolding IsLawful
joint_lawful secure complete not_future joint world log history stands =
    let cfg : Config = joint.receiver.config in
    let seeds : List Key = joint.sender.stream.seeds in
    (secure cfg seeds world log history stands.joined, complete cfg seeds history stands.joined.legal, not_future cfg seeds world log history stands.joined)

-- ---- what a call of the sender answers

-- the frame that was made and is spelled
pub record IsMade {E : Type 0} (made : Result Frame E) (bytes : List ℕ) : Type 0 where
  pub frame : Frame
  pub is : made ≡ Ok frame
  pub spelled : IsFrame bytes frame

pub made_spelled : {E : Type 0} (size : ℕ) (made : Result Frame E) (before now : List ℕ) → sending.Answers {E = E} (Ok size) made before now → sending.Spells {E = E} (Ok size) made now → IsMade made (take size now)
made_spelled size (Ok frame) before now answer spelled = record { frame = frame; is = refl; spelled = spelled }
made_spelled size (Err refusal) before now answer spelled = absurd answer

pub made_refused : {E : Type 0} (told : E) (made : Result Frame E) (before now : List ℕ) → sending.Answers (Err told) made before now → made ≡ Err told
made_refused told (Ok frame) before now answer = absurd answer
made_refused told (Err refusal) before now answer = ap (λ r. Err r) (sym answer)

-- ---- one moment more

sent_more : (stream : Stream) (before calls : List Call) (sents : List Dated) (call : Call) (sent : Dated) → AreSentFor stream before calls sents → IsSentFor stream (before ++ calls) call sent → AreSentFor stream before (calls ++ call ∷ []) (sents ++ sent ∷ [])
sent_more stream before [] [] call sent all one = (subst (λ (log : List Call). IsSentFor stream log call sent) (append-nil before) one, tt)
sent_more stream before [] (first ∷ sents) call sent all one = absurd all
sent_more stream before (first ∷ calls) [] call sent all one = absurd all
sent_more stream before (first ∷ calls) (next ∷ sents) call sent all one =
    (all.0, sent_more stream (before ++ first ∷ []) calls sents call sent all.1 (subst (λ (log : List Call). IsSentFor stream log call sent) (sym (append_assoc before (first ∷ []) calls)) one))

sent_with : (world : List Moment) (moment : Moment) → sent_in (world ++ moment ∷ []) ≡ sent_in world ++ sent_at moment
sent_with world moment = flat_map-append sent_at world (moment ∷ []) ∙ ap (λ r. sent_in world ++ r) (append-nil (sent_at moment))

outcome_with : (world : List Moment) (moment : Moment) → received_in (world ++ moment ∷ []) ≡ received_in world ++ received_at moment
outcome_with world moment = flat_map-append received_at world (moment ∷ []) ∙ ap (λ r. received_in world ++ r) (append-nil (received_at moment))

arrivals_with : (history : List Entry) (entry : Entry) → arrivals_in (history ++ entry ∷ []) ≡ arrivals_in history ++ arrival_in entry
arrivals_with history entry = flat_map-append arrival_in history (entry ∷ []) ∙ ap (λ r. arrivals_in history ++ r) (append-nil (arrival_in entry))

abbrev with_setup : Parts → List Key → Stream
with_setup setup seeds = record { setup = setup; seeds = seeds }

-- the sender's stream is that of its seeds and of the receiver's setup
same_stream : (joint : JointState) (world : List Moment) (log : List Call) (history : List Entry) → StandsFor joint world log history → joint.sender.stream ≡ record { setup = joint.receiver.config.setup; seeds = joint.sender.stream.seeds }
same_stream joint world log history stands = ap (λ (setup : Parts). with_setup setup joint.sender.stream.seeds) stands.setup

-- a frame was sent
pub after_sent : (old : JointState) (sender : sending.State) (reserved : ℕ) (call : Call) (bytes : List ℕ) (world : List Moment) (log : List Call) (history : List Entry) → StandsFor old world log history → sender.stream ≡ old.sender.stream → sending.Stands sender (log ++ call ∷ []) → IsSentFor old.sender.stream log call (record { reading = reading_of call; bytes = bytes }) → StandsFor (record { sender = sender; receiver = old.receiver; frames = old.frames ++ bytes ∷ []; reserved = reserved }) (world ++ Sent (reading_of call) bytes ∷ []) (log ++ call ∷ []) history
after_sent old sender reserved call bytes world log history stands same sends made =
    let cfg : Config = old.receiver.config in
    let seeds : List Key = old.sender.stream.seeds in
    let dated : Dated = record { reading = reading_of call; bytes = bytes } in
    let moment : Moment = Sent (reading_of call) bytes in
    let stream : Stream = record { setup = cfg.setup; seeds = seeds } in
    let here : IsSentFor stream log call dated = subst (λ (s : Stream). IsSentFor s log call dated) (same_stream old world log history stands) made in
    let all : AreSentFor stream [] (log ++ call ∷ []) (sent_in world ++ dated ∷ []) = sent_more stream [] log (sent_in world) call dated stands.joined.sent here in
    let joined : Joined cfg seeds (world ++ moment ∷ []) (log ++ call ∷ []) history = record {
      count = stands.joined.count;
      sent = subst (λ (sents : List Dated). AreSentFor stream [] (log ++ call ∷ []) sents) (sym (sent_with world moment)) all;
      legal = stands.joined.legal;
      received = outcome_with world moment ∙ append-nil (received_in world) ∙ stands.joined.received;
    } in
    record {
      joined = subst (λ (s : Stream). Joined cfg s.seeds (world ++ moment ∷ []) (log ++ call ∷ []) history) (sym same) joined;
      sends = sends;
      receives = stands.receives;
      sent = ap (λ frames. frames ++ bytes ∷ []) stands.sent ∙ sym (map-append bytes_of (sent_in world) (dated ∷ [])) ∙ ap (map bytes_of) (sym (sent_with world moment));
      setup = ap (λ (s : Stream). s.setup) same ∙ stands.setup;
    }

-- the receiver had an event
after_event : (old : JointState) (receiver : State) (entry : Entry) (world more : List Moment) (log : List Call) (history : List Entry) → StandsFor old world log history → receiver.config ≡ old.receiver.config → Stands receiver (history ++ entry ∷ []) → sent_in (world ++ more) ≡ sent_in world → received_in (world ++ more) ≡ map dated_of (arrivals_in (history ++ entry ∷ [])) → StandsFor (record { sender = old.sender; receiver = receiver; frames = old.frames; reserved = old.reserved }) (world ++ more) log (history ++ entry ∷ [])
after_event old receiver entry world more log history stands same receives sent received =
    let cfg : Config = old.receiver.config in
    let seeds : List Key = old.sender.stream.seeds in
    let stream : Stream = record { setup = cfg.setup; seeds = seeds } in
    let joined : Joined cfg seeds (world ++ more) log (history ++ entry ∷ []) = record {
      count = stands.joined.count;
      sent = subst (λ (sents : List Dated). AreSentFor stream [] log sents) (sym sent) stands.joined.sent;
      legal = subst (λ (c : Config). IsLegal c (history ++ entry ∷ [])) same receives.legal;
      received = received;
    } in
    record {
      joined = subst (λ (c : Config). Joined c seeds (world ++ more) log (history ++ entry ∷ [])) (sym same) joined;
      sends = stands.sends;
      receives = receives;
      sent = stands.sent ∙ ap (map bytes_of) (sym sent);
      setup = stands.setup ∙ ap (λ (c : Config). c.setup) (sym same);
    }

-- a datagram came
pub after_received : (old : JointState) (receiver : State) (reading : ℕ) (bytes : List ℕ) (world : List Moment) (log : List Call) (history : List Entry) → StandsFor old world log history → receiver.config ≡ old.receiver.config → Stands receiver (history ++ entry_of old.receiver.config history (Arrives 0 reading bytes) ∷ []) → StandsFor (record { sender = old.sender; receiver = receiver; frames = old.frames; reserved = old.reserved }) (world ++ Received reading bytes ∷ []) log (history ++ entry_of old.receiver.config history (Arrives 0 reading bytes) ∷ [])
after_received old receiver reading bytes world log history stands same receives =
    let entry : Entry = entry_of old.receiver.config history (Arrives 0 reading bytes) in
    let moment : Moment = Received reading bytes in
    after_event old receiver entry world (moment ∷ []) log history stands same receives
    (sent_with world moment ∙ append-nil (sent_in world))
    (outcome_with world moment ∙ ap (λ dates. dates ++ received_at moment) stands.joined.received ∙ sym (map-append dated_of (arrivals_in history) (arrival_in entry)) ∙ ap (map dated_of) (sym (arrivals_with history entry)))

-- the receiver had an event that is no arrival
pub after_other : (old : JointState) (receiver : State) (event : Event) (world : List Moment) (log : List Call) (history : List Entry) → arrival_in (entry_of old.receiver.config history event) ≡ [] → StandsFor old world log history → receiver.config ≡ old.receiver.config → Stands receiver (history ++ entry_of old.receiver.config history event ∷ []) → StandsFor (record { sender = old.sender; receiver = receiver; frames = old.frames; reserved = old.reserved }) world log (history ++ entry_of old.receiver.config history event ∷ [])
after_other old receiver event world log history none stands same receives =
    let entry : Entry = entry_of old.receiver.config history event in
    let arrivals : arrivals_in (history ++ entry ∷ []) ≡ arrivals_in history = arrivals_with history entry ∙ ap (λ more. arrivals_in history ++ more) none ∙ append-nil (arrivals_in history) in
    subst (λ (w : List Moment). StandsFor (record { sender = old.sender; receiver = receiver; frames = old.frames; reserved = old.reserved }) w log (history ++ entry ∷ [])) (append-nil world)
    (after_event old receiver entry world [] log history stands same receives (ap sent_in (append-nil world)) (ap received_in (append-nil world) ∙ stands.joined.received ∙ ap (map dated_of) (sym arrivals)))

-- a joint that was just opened
pub none_yet : (sender : sending.State) (receiver : State) → sender.stream.setup ≡ receiver.config.setup → length sender.stream.seeds ≡ length sender.stream.setup.rows → sending.Stands sender [] → Stands receiver [] → StandsFor (record { sender = sender; receiver = receiver; frames = []; reserved = 0 }) [] [] []
none_yet sender receiver setup seeds sends receives = record {
  joined = record { count = seeds ∙ ap (λ (p : Parts). length p.rows) setup; sent = tt; legal = receives.legal; received = refl };
  sends = sends;
  receives = receives;
  sent = refl;
  setup = setup;
}

-- ---- the clauses, by what the sender and the receiver promise

abbrev joint_of : sending.State → State → List (List ℕ) → ℕ → JointState
joint_of sender receiver frames reserved = record { sender = sender; receiver = receiver; frames = frames; reserved = reserved }

pub message_sent : (stream : Stream) (log : List Call) (reading : ℕ) (payload : List ℕ) (size : ℕ) (before now : List ℕ) → sending.Answers {E = SendRefusal} (Ok size) (made_message stream log reading payload) before now → sending.Spells {E = SendRefusal} (Ok size) (made_message stream log reading payload) now → IsSentFor stream log (Message reading payload) (record { reading = reading; bytes = take size now })
message_sent stream log reading payload size before now answer spelled =
    let made = made_spelled size (made_message stream log reading payload) before now answer spelled in
    record { reading = refl; frame = made.frame; made = ap frame_in made.is; spelled = made.spelled }

pub disclosure_sent : (stream : Stream) (log : List Call) (reading : ℕ) (size : ℕ) (before now : List ℕ) → sending.Answers {E = DiscloseRefusal} (Ok size) (made_disclosure stream log reading) before now → sending.Spells {E = DiscloseRefusal} (Ok size) (made_disclosure stream log reading) now → IsSentFor stream log (Disclose reading) (record { reading = reading; bytes = take size now })
disclosure_sent stream log reading size before now answer spelled =
    let made = made_spelled size (made_disclosure stream log reading) before now answer spelled in
    record { reading = refl; frame = made.frame; made = ap frame_in made.is; spelled = made.spelled }

-- a call of the sender, by the parts of the joint
pub sent_by : (s : sending.State) (r : State) (fs : List (List ℕ)) (room : ℕ) (old : JointState) → joint_of s r fs room ≡ old → (sender : sending.State) (call : Call) (number : ℕ) (bytes : List ℕ) (frames : List (List ℕ)) (reserved : ℕ) → number ≡ length fs → frames ≡ fs ++ bytes ∷ [] → sender.stream ≡ s.stream → ((log : List Call) → sending.Stands s log → sending.Stands sender (log ++ call ∷ [])) → ((log : List Call) → sending.Stands s log → IsSentFor s.stream log call (record { reading = reading_of call; bytes = bytes })) → HasSent old (joint_of sender r frames reserved) call number
sent_by s r fs room old is sender call number bytes frames reserved next more stream sends made =
    subst (λ (o : JointState). HasSent o (joint_of sender r frames reserved) call number) is (record {
      next = next;
      bytes = bytes;
      more = more;
      stands = λ world log history stands.
          subst (λ (all : List (List ℕ)). StandsFor (joint_of sender r all reserved) (world ++ Sent (reading_of call) bytes ∷ []) (log ++ call ∷ []) history) (sym more)
          (after_sent (joint_of s r fs room) sender reserved call bytes world log history stands stream (sends log stands.sends) (made log stands.sends));
      stream = stream;
      receiver_is = refl;
    })

-- an arrival
pub come_by : (s : sending.State) (r : State) (fs : List (List ℕ)) (room : ℕ) (old : JointState) → joint_of s r fs room ≡ old → (receiver : State) (reading : ℕ) (bytes : List ℕ) (verdict : Verdict) → receiver.config ≡ r.config → receiver.calls ≡ r.calls + 1 → ((h : List Entry) → Stands r h → Arrived (record { ingest = 0; reading = reading; bytes = bytes; verdict = verdict }) ≡ entry_of r.config h (Arrives 0 reading bytes)) → ((h : List Entry) → Stands r h → Stands receiver (h ++ entry_of r.config h (Arrives 0 reading bytes) ∷ [])) → HasCome old (joint_of s receiver fs room) reading bytes verdict
come_by s r fs room old is receiver reading bytes verdict config calls answer receives =
    subst (λ (o : JointState). HasCome o (joint_of s receiver fs room) reading bytes verdict) is (record {
      answer = λ world log history stands. answer history stands.receives;
      stands = λ world log history stands. after_received (joint_of s r fs room) receiver reading bytes world log history stands config (receives history stands.receives);
      config = config;
      calls = calls;
      sender_is = refl;
      frames_are = refl;
    })

-- another event
pub had_by : (s : sending.State) (r : State) (fs : List (List ℕ)) (room : ℕ) (old : JointState) → joint_of s r fs room ≡ old → (receiver : State) (event : Event) → ((h : List Entry) → arrival_in (entry_of r.config h event) ≡ []) → receiver.config ≡ r.config → receiver.calls ≡ r.calls + 1 → ((h : List Entry) → Stands r h → Stands receiver (h ++ entry_of r.config h event ∷ [])) → HasHad old (joint_of s receiver fs room) event
had_by s r fs room old is receiver event none config calls receives =
    subst (λ (o : JointState). HasHad o (joint_of s receiver fs room) event) is (record {
      stands = λ world log history stands. after_other (joint_of s r fs room) receiver event world log history (none history) stands config (receives history stands.receives);
      config = config;
      calls = calls;
      sender_is = refl;
      frames_are = refl;
    })
