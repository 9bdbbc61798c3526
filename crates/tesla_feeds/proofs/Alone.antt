-- A feed over a list of one stream.
use Rattle.std.proofs.Common.{◌≡◌, ◌∙◌, ℕ, Bool, true, false, List, [], ◌∷◌, ◌++◌, Some, None, refl, sym, ap, append-nil, arith}
use Rattle.std.specs.Prelude.{Result, Ok, Err, if◌then◌else◌, ◌&&◌, ◌||◌, max, nat_lt, nat_le}
use Rattle.std.specs.List.{fold, list_any}
use Rattle.std.proofs.lemmas.Bool.{le-ltb}
use Rattle.std.proofs.lemmas.List.Sums.{fold-append}
use Rattle.tesla_clock.specs.Schedule.{Times}
use Rattle.tesla_base.specs.declared.names.Name.{Name}
use Rattle.tesla_desk.specs.declared.link.Letter.TheVariants as letters
use Rattle.tesla_sender.specs.Made.{Call, Message, Disclose, Chain, Stream, chains_of, index_disclosed, interval_at, interval_in, latest_of}
use Rattle.tesla_sender.specs.declared.refusal.SendRefusal.{SendRefusal}
use Rattle.tesla_feed.specs.Fed.{Event, Received, Rested, Feeding, datagram_of, datagrams_of, disclosed_by, first_interval, has_begun, has_ended, is_due, is_unread, name_from, nothing_fed, tells_more}
use Rattle.tesla_feed.specs.Fed as feed
use Rattle.tesla_feed.proofs.Going.{datagrams_more}
use Rattle.tesla_feed.proofs.Kept.{never_due}
use Rattle.tesla_feeds.specs.Fed.{Fed, Part, after_event, after_handover, after_keys, after_message, after_missed, after_read, fed_from, parts_at, said_as, call_done, nothing_done, with_done, one_done, both_done, none_done, Done}
use Rattle.tesla_feeds.specs.Laws.{FeedsAlone}

-- one stream of which this was made
abbrev one_part : Stream → ℕ → List Call → Part
one_part stream first log = record { stream = stream; first = first; next = None; log = log; handed = 0 }

abbrev one_with : Stream → ℕ → List Call → List (List ℕ) → Feeding → Fed
one_with stream first log frames whole = record { parts = one_part stream first log ∷ []; frames = frames; whole = whole; handovers = 0 }

abbrev one_of : Stream → ℕ → Feeding → Fed
one_of stream first made = one_with stream first made.log (datagrams_of stream made.log) made

-- ---- frames

frames_none : (stream : Stream) (log : List Call) → datagrams_of stream log ++ [] ≡ datagrams_of stream log
frames_none stream log = append-nil (datagrams_of stream log)

frames_one : (stream : Stream) (log : List Call) (call : Call) → datagrams_of stream log ++ (datagram_of stream log call ++ []) ≡ datagrams_of stream (log ++ call ∷ [])
frames_one stream log call =
    ap (λ (ds : List (List ℕ)). datagrams_of stream log ++ ds) (append-nil (datagram_of stream log call)) ∙ sym (datagrams_more stream [] log call)

-- ---- no key is newer than those that a message told at the same reading

pub not_below : (a b : ℕ) → nat_lt (max a b) b ≡ false
not_below a b = le-ltb (max a b) b (omega arith)

pub none_newer : (most : Chain → ℕ) (index : Chain → ℕ) (chains : List Chain) → ((chain : Chain) → nat_lt (most chain) (index chain) ≡ false) → list_any (λ chain. nat_lt (most chain) (index chain)) chains ≡ false
none_newer most index [] none = refl
none_newer most index (chain ∷ chains) none = ap (λ b. b || list_any (λ c. nat_lt (most c) (index c)) chains) (none chain) ∙ none_newer most index chains none

pub and_false : (a b c : Bool) → c ≡ false → (a && (b && c)) ≡ false
and_false true true c is = is
and_false true false c is = refl
and_false false b c is = refl

pub disclosed_more : (times : Times) (log : List Call) (call : Call) (chain : Chain) → disclosed_by times (log ++ call ∷ []) chain ≡ max (disclosed_by times log chain) (index_disclosed (interval_in times call) chain)
disclosed_more times log call chain = fold-append (λ (most : ℕ) (call : Call). max most (index_disclosed (interval_in times call) chain)) 0 log (call ∷ [])

told_by_message : (stream : Stream) (first : ℕ) (log : List Call) (reading : ℕ) (payload : List ℕ) → is_due stream first (log ++ Message reading payload ∷ []) reading ≡ false
told_by_message stream first log reading payload =
    let times = stream.setup.times in
    let call = Message reading payload in
    let interval = interval_at times reading in
    and_false (has_begun times first reading) (nat_le (latest_of times (log ++ call ∷ [])) interval) (tells_more stream (log ++ call ∷ []) interval)
    (none_newer (disclosed_by times (log ++ call ∷ [])) (index_disclosed interval) (chains_of stream)
    (λ chain. ap (λ (n : ℕ). nat_lt n (index_disclosed interval chain)) (disclosed_more times log call chain) ∙ not_below (disclosed_by times log chain) (index_disclosed interval chain)))

-- ---- the stages of an event

handed_one : (stream : Stream) (first : ℕ) (made : Feeding) (reading : ℕ) → after_handover reading (one_of stream first made) ≡ one_of stream first made
handed_one stream first made reading = ap (λ (fs : List (List ℕ)). one_with stream first made.log fs made) (frames_none stream made.log)

-- what a stage makes, where it changes the whole so
made_one : (stream : Stream) (first : ℕ) (log : List Call) (frames others : List (List ℕ)) (unread : ℕ) (calls calls_is : List Call) (refused refused_is : List SendRefusal)
    → frames ≡ others → calls ≡ calls_is → refused ≡ refused_is
    → one_with stream first log frames (record { log = calls; refused = refused; unread = unread }) ≡ one_with stream first log others (record { log = calls_is; refused = refused_is; unread = unread })
made_one stream first log frames others unread calls calls_is refused refused_is same_frames same_calls same_refused =
    ap (λ (fs : List (List ℕ)). one_with stream first log fs (record { log = calls; refused = refused; unread = unread })) same_frames
    ∙ ap (λ (cs : List Call). one_with stream first log others (record { log = cs; refused = refused; unread = unread })) same_calls
    ∙ ap (λ (rs : List SendRefusal). one_with stream first log others (record { log = calls_is; refused = rs; unread = unread })) same_refused

abbrev said_made : Feeding → ℕ → List ℕ → Result Name SendRefusal → Feeding
said_made made reading payload (Ok name) = feed.with_call made (Message reading payload)
said_made made reading payload (Err refusal) = feed.with_refusal made refusal

said_one : (stream : Stream) (first : ℕ) (made : Feeding) (reading : ℕ) (payload : List ℕ) (name : Result Name SendRefusal)
    → with_done (one_of stream first made) (one_done (said_as (one_part stream first made.log) reading payload name) []) ≡ one_of stream first (said_made made reading payload name)
said_one stream first made reading payload (Ok name) =
    let call = Message reading payload in
    made_one stream first (made.log ++ call ∷ []) _ _ made.unread (made.log ++ call ∷ []) (made.log ++ call ∷ []) _ made.refused (frames_one stream made.log call) refl (append-nil made.refused)
said_one stream first made reading payload (Err refusal) =
    made_one stream first made.log _ _ made.unread _ made.log (made.refused ++ refusal ∷ []) (made.refused ++ refusal ∷ []) (frames_none stream made.log) (append-nil made.log) refl

abbrev told_where : Stream → ℕ → Feeding → ℕ → Bool → Done
told_where stream first made reading due = if due then call_done (one_part stream first made.log) (Disclose reading) else nothing_done (one_part stream first made.log)

told_as : (stream : Stream) (first : ℕ) (made : Feeding) (reading : ℕ) (due : Bool)
    → with_done (one_of stream first made) (both_done (told_where stream first made reading due) none_done) ≡ one_of stream first (if due then feed.with_call made (Disclose reading) else made)
told_as stream first made reading true =
    let call = Disclose reading in
    made_one stream first (made.log ++ call ∷ []) _ _ made.unread (made.log ++ call ∷ []) (made.log ++ call ∷ []) _ made.refused
    (ap (λ (ds : List (List ℕ)). datagrams_of stream made.log ++ ds) (append-nil (datagram_of stream made.log call ++ [])) ∙ frames_one stream made.log call) refl (append-nil made.refused)
told_as stream first made reading false =
    made_one stream first made.log _ _ made.unread _ made.log _ made.refused (frames_none stream made.log) (append-nil made.log) (append-nil made.refused)

told_one : (stream : Stream) (first : ℕ) (made : Feeding) (reading : ℕ) → after_keys reading (one_of stream first made) ≡ one_of stream first (feed.after_none stream first made reading)
told_one stream first made reading = told_as stream first made reading (is_due stream first made.log reading)

-- behind a message that was judged
judged_one : (stream : Stream) (first : ℕ) (made : Feeding) (reading : ℕ) (payload : List ℕ) (name : Result Name SendRefusal)
    → feed.after_none stream first (said_made made reading payload name) reading ≡ feed.after_judged stream first made reading payload name
judged_one stream first made reading payload (Ok name) =
    let now = feed.with_call made (Message reading payload) in
    ap (λ (due : Bool). if due then feed.with_call now (Disclose reading) else now) (told_by_message stream first made.log reading payload)
judged_one stream first made reading payload (Err refusal) = refl

read_one : (stream : Stream) (first : ℕ) (made : Feeding) (reading : ℕ) (payload : List ℕ)
    → after_read reading (Some payload) (one_of stream first made) ≡ one_of stream first (feed.after_judged stream first made reading payload (name_from stream.setup.times first made.log reading payload))
read_one stream first made reading payload =
    let name = name_from stream.setup.times first made.log reading payload in
    ap (λ (f : Fed). after_keys reading (after_message reading (Some payload) f)) (handed_one stream first made reading)
    ∙ ap (after_keys reading) (said_one stream first made reading payload name)
    ∙ told_one stream first (said_made made reading payload name) reading
    ∙ ap (one_of stream first) (judged_one stream first made reading payload name)

quiet_one : (stream : Stream) (first : ℕ) (made : Feeding) (reading : ℕ) → after_read reading None (one_of stream first made) ≡ one_of stream first (feed.after_none stream first made reading)
quiet_one stream first made reading = ap (after_keys reading) (handed_one stream first made reading) ∙ told_one stream first made reading

-- ---- an event

message_where : (stream : Stream) (first : ℕ) (made judged : Feeding) (payload : List ℕ) (read : Fed) (unread : Bool) → read ≡ one_of stream first judged
    → (if unread then after_missed (Some payload) (one_of stream first made) else read) ≡ one_of stream first (if unread then feed.with_unread made else judged)
message_where stream first made judged payload read true same = refl
message_where stream first made judged payload read false same = same

quiet_where : (stream : Stream) (first : ℕ) (made : Feeding) (reading : ℕ) (read : Fed) (unread : Bool) → is_unread reading ≡ unread → read ≡ one_of stream first (feed.after_none stream first made reading)
    → (if unread then after_missed None (one_of stream first made) else read) ≡ one_of stream first (feed.after_none stream first made reading)
quiet_where stream first made reading read true unread same =
    sym (ap (λ (due : Bool). one_of stream first (if due then feed.with_call made (Disclose reading) else made)) (never_due stream first made.log reading unread))
quiet_where stream first made reading read false unread same = same

event_one : (stream : Stream) (first : ℕ) (made : Feeding) (event : Event) → after_event (one_of stream first made) event ≡ one_of stream first (feed.after_event stream first made event)
event_one stream first made (Received reading (letters.Datagram bytes)) = message_where stream first made _ bytes _ (is_unread reading) (read_one stream first made reading bytes)
event_one stream first made (Received reading letters.Quiet) = quiet_where stream first made reading _ (is_unread reading) refl (quiet_one stream first made reading)
event_one stream first made (Rested reading) = quiet_where stream first made reading _ (is_unread reading) refl (quiet_one stream first made reading)

events_one : (stream : Stream) (first : ℕ) (made : Feeding) (events : List Event) → fold after_event (one_of stream first made) events ≡ one_of stream first (fold (feed.after_event stream first) made events)
events_one stream first made [] = refl
events_one stream first made (event ∷ events) =
    ap (λ (f : Fed). fold after_event f events) (event_one stream first made event) ∙ events_one stream first (feed.after_event stream first made event) events

alone_where : (stream : Stream) (opening : ℕ) (events : List Event) (over : Bool)
    → (fed_from (parts_at opening (if over then [] else stream ∷ [])) events).whole ≡ (if over then nothing_fed else fold (feed.after_event stream (first_interval stream.setup.times opening)) nothing_fed events)
alone_where stream opening events true = refl
alone_where stream opening events false = ap (λ (f : Fed). f.whole) (events_one stream (first_interval stream.setup.times opening) nothing_fed events)

frames_where : (stream : Stream) (opening : ℕ) (events : List Event) (over : Bool)
    → (fed_from (parts_at opening (if over then [] else stream ∷ [])) events).frames ≡ datagrams_of stream (if over then nothing_fed else fold (feed.after_event stream (first_interval stream.setup.times opening)) nothing_fed events).log
frames_where stream opening events true = refl
frames_where stream opening events false = ap (λ (f : Fed). f.frames) (events_one stream (first_interval stream.setup.times opening) nothing_fed events)

handovers_where : (stream : Stream) (opening : ℕ) (events : List Event) (over : Bool) → (fed_from (parts_at opening (if over then [] else stream ∷ [])) events).handovers ≡ 0
handovers_where stream opening events true = refl
handovers_where stream opening events false = ap (λ (f : Fed). f.handovers) (events_one stream (first_interval stream.setup.times opening) nothing_fed events)

pub are_alone : FeedsAlone
are_alone stream opening events =
    let over = has_ended stream opening in
    (alone_where stream opening events over, frames_where stream opening events over, handovers_where stream opening events over)
