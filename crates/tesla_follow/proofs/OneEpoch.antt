-- While one epoch was opened and no message was given early, the answers are those of a receiver.
use Rattle.std.proofs.Common.{◌≡◌, ℕ, suc, ◌+◌, ◌≤◌, Bool, true, false, cond, List, [], ◌∷◌, ◌++◌, append_assoc, length, length-append, map, take, get_or, Option, Some, None, Result, Ok, Err, refl, sym, ap, subst, ◌∙◌, arith}
use Rattle.std.specs.Prelude.{slice_get}
use Rattle.std.specs.List.{fold, list_all, range_with_len}
use Rattle.std.proofs.lemmas.List.{append-nil, map-append}
use Rattle.std.proofs.lemmas.List.Sums.{sum_by_push}
use Rattle.tesla_base.specs.declared.release.Head.{Head}
use Rattle.tesla_commit.specs.Parsing.{judged}
use Rattle.tesla_commit.specs.Parts.{Parts}
use Rattle.tesla_commit.specs.declared.refusal.SetupKind.{SetupKind}
use Rattle.tesla_fitting.specs.declared.config.Config.{Config}
use Rattle.tesla_receiver.specs.Entries.{Arrival, Entry}
use Rattle.tesla_receiver.specs.History.{Event, Arrives, Ends, Takes, arrivals_in, given_in, gives, has_end, payload_of, reply_to, reply_with}
use Rattle.tesla_receiver.specs.Packets.{released}
use Rattle.tesla_receiver.specs.declared.history.Entry.TheVariants.{Arrived, Taken, Ended}
use Rattle.tesla_state.specs.declared.replies.Reply.{Reply}
use Rattle.tesla_state.specs.declared.replies.Reply.TheVariants as replies
use Rattle.tesla_state.specs.Releases.{head_of}
use Rattle.tesla_rollover.specs.Epochs.{up_to_given}
use Rattle.tesla_rollover.specs.Handover.{handover_text}
use Rattle.tesla_walks.specs.declared.release.Release.{Release}
use Rattle.tesla_follow.specs.declared.answers.FollowNext.{FollowNext}
use Rattle.tesla_follow.specs.declared.answers.FollowNext.TheVariants.{Plain, Old, EpochsSpent, BadSetup, EqualCommitments, UsedStream, Opened}
use Rattle.tesla_follow.specs.declared.answers.FollowReply.TheVariants.{Released}
use Rattle.tesla_follow.specs.Followed.{Accepted, Followed, FollowedEpoch, TakesOne, acceptance_in, after_arrival, after_asking, after_end, after_next, after_opening, after_text, answer_with, arrival_in, arrived_in, asked_all, asked_with, ended_in, epoch_of, gives_asked, gives_none, head_at, next_of, no_epoch, nothing_followed, oldest, open_epochs, place_for, replies_in, takes_in_turn, with_open}
use Rattle.tesla_follow.specs.History.{FollowEntry, IsFollowed, IsFollowedAfter, after_event, entry_of, epoch_at, event_of, followed}
use Rattle.tesla_follow.specs.Kept.{reply_of}
use Rattle.tesla_follow.specs.Laws.{entry_in_one, epoch_numbered}
use Rattle.tesla_follow.proofs.Histories.{followed_more, followed_none}
use Rattle.tesla_follow.proofs.Places.{AreExtended, entries_move, event_moves, place_open}

-- one epoch was opened, and one of the messages that wait would be next
abbrev single : Followed → FollowedEpoch → List Accepted → Followed
single base e queue = record base { epochs = e ∷ []; queue = queue; turn = true; records = given_in e.history }

-- the one epoch has the entry of a receiver more
record Goes (e : FollowedEpoch) (made : Followed) (entry : FollowEntry) : Type 0 where
  epoch : FollowedEpoch
  is : made ≡ single made epoch made.queue
  history : epoch.history ≡ e.history ++ entry_in_one entry ∷ []

given_more : (h : List Entry) (x : Entry) → given_in (h ++ x ∷ []) ≡ given_in h + cond {A = ℕ} (gives x) 1 0
given_more h x = sum_by_push (λ (y : Entry). cond (gives y) 1 0) h x

given_same : (h : List Entry) (x : Entry) → gives x ≡ false → given_in h ≡ given_in (h ++ x ∷ [])
given_same h x none = let more = given_more h x in let one : cond (gives x) 1 0 ≡ 0 = ap (λ (b : Bool). cond {A = ℕ} b 1 0) none in omega (arith, more, one)

-- ---- an arrival, and an end

module _ (cfg : Config) (base : Followed) (e : FollowedEpoch) (queue : List Accepted) where
  abbrev now : Followed
  now = single base e queue

  goes_arrived : (ingest reading : ℕ) (bytes : List ℕ) → Goes e (after_event cfg now (Arrives ingest reading bytes)) (entry_of cfg now (Arrives ingest reading bytes))
  goes_arrived ingest reading bytes =
      let within = place_open now bytes (omega arith) in
      let first : 0 ≡ place_for now bytes = omega (arith, within) in
      let arrival = arrival_in e ingest reading bytes in
      let acceptance = acceptance_in cfg now e arrival in
      let arrived : FollowedEpoch = arrived_in e acceptance arrival in
      let made : ℕ → Followed = λ place. (let own = epoch_at cfg now place in let came = arrival_in own ingest reading bytes in after_arrival now place own (acceptance_in cfg now own came) came) in
      let told : ℕ → FollowEntry = λ place. (let own = epoch_at cfg now place in let came = arrival_in own ingest reading bytes in
      Arrived (record { ingest = ingest; reading = reading; bytes = bytes; verdict = answer_with (oldest now + place) (acceptance_in cfg now own came) came })) in
      subst (λ (place : ℕ). Goes e (made place) (told place)) first
      (record { epoch = arrived; is = ap (λ (n : ℕ). (let x : Followed = record (made 0) { records = n } in x)) (given_same e.history (Arrived arrival) refl); history = refl })

  goes_ended : (ingest : ℕ) → Goes e (after_event cfg now (Ends ingest)) (entry_of cfg now (Ends ingest))
  goes_ended ingest = record {
    epoch = ended_in ingest e;
    is = ap (λ (n : ℕ). (let x : Followed = record (after_end now ingest) { records = n } in x)) (given_same e.history (Ended ingest) refl);
    history = refl;
  }

-- ---- a take

position_with : (arrivals : List Arrival) (position : ℕ) (o : Option Release) (ended : Bool) (head : Head) (payload : List ℕ) → reply_with arrivals position o ended ≡ replies.Given head payload → head.position ≡ position
position_with arrivals position None true head payload is = absurd cc
position_with arrivals position None false head payload is = absurd cc
position_with arrivals position (Some release) ended head payload is =
    let same : head ≡ head_of position release (payload_of (slice_get arrivals release.place)) = cc in
    ap (λ (h : Head). h.position) same

-- the head of a packet that a receiver gives counts the packets that were given before
position_is : (cfg : Config) (h : List Entry) (head : Head) (payload : List ℕ) → reply_to cfg h ≡ replies.Given head payload → head.position ≡ given_in h
unfolding reply_to
position_is cfg h head payload is =
    position_with (arrivals_in h) (given_in h) (slice_get (released cfg (arrivals_in h)) (given_in h)) (list_all (has_end h) (range_with_len 0 cfg.ingests)) head payload is

head_same : (records : ℕ) (head : Head) → head.position ≡ records → head_at records head ≡ head
head_same records head is = ap (λ (n : ℕ). head_at n head) (sym is)

-- where no epoch was opened, all is as before
not_opened : (cfg : Config) (given : Followed) (payload : List ℕ) (next : FollowNext) → length (after_next cfg given payload next).epochs ≡ length given.epochs → after_next cfg given payload next ≡ given
not_opened cfg given payload Opened same = text_same (handover_text payload) same
  where
    setup_same : (r : Result Parts (ℕ × SetupKind)) → length (after_opening cfg given r).epochs ≡ length given.epochs → after_opening cfg given r ≡ given
    setup_same (Err refused) long = refl
    setup_same (Ok setup) long = let more = length-append given.epochs (epoch_of cfg given setup ∷ []) in absurd (omega (arith, more, long))

    text_same : (o : Option (List ℕ)) → length (after_text cfg given o).epochs ≡ length given.epochs → after_text cfg given o ≡ given
    text_same None long = refl
    text_same (Some text) long = setup_same (judged text) long
not_opened cfg given payload Plain same = refl
not_opened cfg given payload (Old newest) same = refl
not_opened cfg given payload EpochsSpent same = refl
not_opened cfg given payload (BadSetup line kind) same = refl
not_opened cfg given payload (EqualCommitments chain) same = refl
not_opened cfg given payload (UsedStream stream) same = refl

-- what a take comes to where the one epoch answers so
abbrev taking : Config → Followed → ℕ → Reply → TakesOne
taking cfg it releaser reply =
    let rs = up_to_given (reply ∷ []) in
    gives_asked cfg (record it { epochs = with_open it (asked_all releaser rs (open_epochs it)) }) rs (oldest it) rs

module _ (cfg : Config) (base : Followed) (e : FollowedEpoch) (releaser : ℕ) where
  abbrev before : Followed
  before = single base e []

  goes_taking : (reply : Reply) → reply_of e ≡ reply → length (taking cfg before releaser reply).after.epochs ≡ 1 → Goes e (taking cfg before releaser reply).after (Taken releaser (taking cfg before releaser reply).reply)
  goes_taking replies.Empty is one = record {
    epoch = asked_with releaser replies.Empty e;
    is = ap (λ (n : ℕ). (let x : Followed = record before { epochs = asked_with releaser replies.Empty e ∷ []; records = n } in x)) (given_same e.history (Taken releaser replies.Empty) refl);
    history = refl;
  }
  goes_taking replies.Over is one = record {
    epoch = asked_with releaser replies.Over e;
    is = ap (λ (n : ℕ). (let x : Followed = record before { epochs = asked_with releaser replies.Over e ∷ []; records = n } in x)) (given_same e.history (Taken releaser replies.Over) refl);
    history = refl;
  }
  goes_taking (replies.Given head payload) is one =
      let now : FollowedEpoch = asked_with releaser (replies.Given head payload) e in
      let asked : Followed = record before { epochs = now ∷ [] } in
      let given : Followed = record asked { records = suc (given_in e.history) } in
      let next = next_of asked 0 payload in
      let same : after_next cfg given payload next ≡ given = not_opened cfg given payload next one in
      let count : suc (given_in e.history) ≡ given_in now.history = (let more = given_more e.history (Taken releaser (replies.Given head payload)) in omega (arith, more)) in
      let told = head_same (given_in e.history) head (position_is e.config e.history head payload is) in
      subst (λ (made : Followed). Goes e made (Taken releaser (Released 0 (head_at (given_in e.history) head) payload next))) (sym same)
      (record {
        epoch = now;
        is = ap (λ (n : ℕ). (let x : Followed = record given { records = n } in x)) count;
        history = ap (λ (h : Head). e.history ++ Taken releaser (replies.Given h payload) ∷ []) (sym told);
      })

goes_taken : (cfg : Config) (base : Followed) (e : FollowedEpoch) (releaser : ℕ) (queue : List Accepted) → let taken = takes_in_turn cfg (single base e queue) releaser true queue in
    length taken.after.epochs ≡ 1 → taken.after.early ≡ base.early → Goes e taken.after (Taken releaser taken.reply)
goes_taken cfg base e releaser [] one none = goes_taking cfg base e releaser (reply_of e) refl one
goes_taken cfg base e releaser (accepted ∷ others) one none = absurd (omega (arith, none))

goes : (cfg : Config) (base : Followed) (e : FollowedEpoch) (queue : List Accepted) (event : Event) → let made = after_event cfg (single base e queue) event in
    length made.epochs ≡ 1 → made.early ≡ base.early → Goes e made (entry_of cfg (single base e queue) event)
goes cfg base e queue (Arrives ingest reading bytes) one none = goes_arrived cfg base e queue ingest reading bytes
goes cfg base e queue (Takes releaser) one none = goes_taken cfg base e releaser queue one none
goes cfg base e queue (Ends ingest) one none = goes_ended cfg base e queue ingest

-- ---- counts that only grow

next_early : (cfg : Config) (it : Followed) (payload : List ℕ) (next : FollowNext) → (after_next cfg it payload next).early ≡ it.early
next_early cfg it payload Opened = text_early (handover_text payload)
  where
    setup_early : (r : Result Parts (ℕ × SetupKind)) → (after_opening cfg it r).early ≡ it.early
    setup_early (Err refused) = refl
    setup_early (Ok setup) = refl

    text_early : (o : Option (List ℕ)) → (after_text cfg it o).early ≡ it.early
    text_early None = refl
    text_early (Some text) = setup_early (judged text)
next_early cfg it payload Plain = refl
next_early cfg it payload (Old newest) = refl
next_early cfg it payload EpochsSpent = refl
next_early cfg it payload (BadSetup line kind) = refl
next_early cfg it payload (EqualCommitments chain) = refl
next_early cfg it payload (UsedStream stream) = refl

none_early : (it : Followed) (answers : List Reply) (queue : List Accepted) → it.early ≤ (gives_none it answers queue).after.early
none_early it answers [] = omega arith
none_early it answers (accepted ∷ others) = omega arith

asked_early : (cfg : Config) (it : Followed) (answers : List Reply) (number : ℕ) (rs : List Reply) → it.early ≤ (gives_asked cfg it answers number rs).after.early
asked_early cfg it answers number [] = none_early it answers it.queue
asked_early cfg it answers number (replies.Given head payload ∷ rs) = let same = next_early cfg (record it { turn = true; records = suc it.records }) payload (next_of it number payload) in omega (arith, same)
asked_early cfg it answers number (replies.Empty ∷ rs) = asked_early cfg it answers (suc number) rs
asked_early cfg it answers number (replies.Over ∷ rs) = asked_early cfg it answers (suc number) rs

taken_early : (cfg : Config) (it : Followed) (releaser : ℕ) (turn : Bool) (queue : List Accepted) → it.early ≤ (takes_in_turn cfg it releaser turn queue).after.early
taken_early cfg it releaser turn [] = asked_early cfg (after_asking it releaser) (replies_in it) (oldest it) (replies_in it)
taken_early cfg it releaser true (accepted ∷ others) = omega arith
taken_early cfg it releaser false (accepted ∷ others) = asked_early cfg (after_asking it releaser) (replies_in it) (oldest it) (replies_in it)

event_early : (cfg : Config) (it : Followed) (event : Event) → it.early ≤ (after_event cfg it event).early
event_early cfg it (Arrives ingest reading bytes) = omega arith
event_early cfg it (Takes releaser) = taken_early cfg it releaser it.turn it.queue
event_early cfg it (Ends ingest) = omega arith

entries_early : (cfg : Config) (entries : List FollowEntry) (it : Followed) → it.early ≤ (fold (λ made entry. after_event cfg made (event_of entry)) it entries).early
entries_early cfg [] it = omega arith
entries_early cfg (entry ∷ entries) it =
    let one = event_early cfg it (event_of entry) in
    let rest = entries_early cfg entries (after_event cfg it (event_of entry)) in
    omega (arith, one, rest)

count_grows : (es fs : List FollowedEpoch) → AreExtended es fs → length es ≤ length fs
count_grows [] fs grows = omega arith
count_grows (e ∷ es) [] grows = absurd grows
count_grows (e ∷ es) (f ∷ fs) grows = let rest = count_grows es fs grows.1 in omega (arith, rest)

-- ---- a whole history

abbrev stepped : Config → Followed → FollowEntry → Followed
stepped cfg made entry = after_event cfg made (event_of entry)

-- the entries so far are those of the one epoch
record IsOne (it : Followed) (before : List FollowEntry) : Type 0 where
  epoch : FollowedEpoch
  is : it ≡ single it epoch it.queue
  history : epoch.history ≡ map entry_in_one before

one_more : (cfg : Config) (it : Followed) (before : List FollowEntry) (entry : FollowEntry) → IsOne it before → entry ≡ entry_of cfg it (event_of entry) → length (after_event cfg it (event_of entry)).epochs ≡ 1 → (after_event cfg it (event_of entry)).early ≡ it.early
    → IsOne (after_event cfg it (event_of entry)) (before ++ entry ∷ [])
one_more cfg it before entry so_far told one none =
    let e = so_far.epoch in
    let event = event_of entry in
    let step : length (after_event cfg it event).epochs ≡ 1 → (after_event cfg it event).early ≡ it.early → Goes e (after_event cfg it event) (entry_of cfg it event) =
    subst (λ (x : Followed). length (after_event cfg x event).epochs ≡ 1 → (after_event cfg x event).early ≡ it.early → Goes e (after_event cfg x event) (entry_of cfg x event)) (sym so_far.is) (goes cfg it e it.queue event) in
    let next = step one none in
    record {
      epoch = next.epoch;
      is = next.is;
      history = next.history ∙ ap (λ (x : FollowEntry). e.history ++ entry_in_one x ∷ []) (sym told) ∙ ap (λ (xs : List Entry). xs ++ entry_in_one entry ∷ []) so_far.history ∙ sym (map-append entry_in_one before (entry ∷ []));
    }

one_after : (cfg : Config) (entries before : List FollowEntry) (it : Followed) → it ≡ followed cfg before → IsFollowedAfter cfg before entries → IsOne it before
    → length (fold (stepped cfg) it entries).epochs ≡ 1 → (fold (stepped cfg) it entries).early ≡ it.early → IsOne (fold (stepped cfg) it entries) (before ++ entries)
one_after cfg [] before it made legal so_far one none = subst (IsOne it) (sym (append-nil before)) so_far
one_after cfg (entry ∷ entries) before it made legal so_far one none =
    let event = event_of entry in
    let next = after_event cfg it event in
    let few = count_grows next.epochs (fold (stepped cfg) next entries).epochs (entries_move cfg entries next) in
    let some = count_grows it.epochs next.epochs (event_moves cfg it event) in
    let had = ap (λ (x : Followed). length x.epochs) so_far.is in
    let rose = event_early cfg it event in
    let rises = entries_early cfg entries next in
    let still : next.early ≡ it.early = omega (arith, rose, rises, none) in
    let told : entry ≡ entry_of cfg it event = subst (λ (x : Followed). entry ≡ entry_of cfg x event) (sym made) legal.0 in
    subst (IsOne (fold (stepped cfg) next entries)) (append_assoc before (entry ∷ []) entries)
    (one_after cfg entries (before ++ entry ∷ []) next (ap (λ (x : Followed). after_event cfg x event) made ∙ sym (followed_more cfg before entry)) legal.1
    (one_more cfg it before entry so_far told (omega (arith, few, some, had, one)) still) one (omega (arith, rose, rises, none)))

-- the entries are those of the one epoch
pub one_epoch : (cfg : Config) (h : List FollowEntry) → IsFollowed cfg h → length (followed cfg h).epochs ≡ 1 → (followed cfg h).early ≡ 0 → map entry_in_one h ≡ (epoch_numbered cfg h 0).history
unfolding followed
one_epoch cfg h legal one none =
    let nothing : IsOne (nothing_followed cfg) [] = record { epoch = no_epoch cfg; is = refl; history = refl } in
    let all = one_after cfg h [] (nothing_followed cfg) (sym (followed_none cfg)) legal nothing one none in
    sym all.history ∙ ap (λ (it : Followed). (get_or it.epochs 0 (no_epoch cfg)).history) (sym all.is)
