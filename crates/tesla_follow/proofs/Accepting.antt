-- The messages that wait were accepted in their epochs, and so were those that are given.
use Rattle.std.proofs.Common.{◌≡◌, ℕ, zero, suc, ◌+◌, ◌≤◌, ◌<◌, Bool, true, false, cond, List, [], ◌∷◌, ◌++◌, append_assoc, length, take, drop, take-append-drop, Option, Some, None, Result, Ok, Err, refl, sym, ap, subst, ⊎_elim, ◌∙◌, arith}
use Rattle.std.specs.Prelude.{slice_get}
use Rattle.std.specs.List.{AllByRecursion, fold, list_all}
use Rattle.std.proofs.Math.Seq.{take-append_seam}
use Rattle.std.proofs.lemmas.List.{append-nil, take-append-le}
use Rattle.std.proofs.lemmas.Option.{get_or_from_slice_get, slice_get_within}
use Rattle.tesla_base.specs.declared.release.Head.{Head}
use Rattle.tesla_commit.specs.Parsing.{judged}
use Rattle.tesla_commit.specs.Parts.{Parts}
use Rattle.tesla_commit.specs.declared.refusal.SetupKind.{SetupKind}
use Rattle.tesla_early.specs.Early.{Message, candidate, is_early}
use Rattle.tesla_early.specs.Laws.{Gave, WasEarly}
use Rattle.tesla_early.proofs.Accepted.{was_promised}
use Rattle.tesla_early.proofs.Authentic.{gave_released}
use Rattle.tesla_fitting.specs.declared.config.Config.{Config}
use Rattle.tesla_receiver.specs.Entries.{Arrival, Entry}
use Rattle.tesla_receiver.specs.History.{Event, Arrives, Ends, Takes}
use Rattle.tesla_receiver.specs.declared.history.Entry.TheVariants.{Arrived, Taken}
use Rattle.tesla_state.specs.declared.replies.Reply.{Reply}
use Rattle.tesla_state.specs.declared.replies.Reply.TheVariants as replies
use Rattle.tesla_rollover.specs.Handover.{handover_text}
use Rattle.tesla_rollover.specs.Replies.{is_over}
use Rattle.tesla_follow.specs.declared.answers.Acceptance.{Acceptance}
use Rattle.tesla_follow.specs.declared.answers.Acceptance.TheVariants as acceptances
use Rattle.tesla_follow.specs.declared.answers.FollowNext.{FollowNext}
use Rattle.tesla_follow.specs.declared.answers.FollowNext.TheVariants.{Plain, Old, EpochsSpent, BadSetup, EqualCommitments, UsedStream, Opened}
use Rattle.tesla_follow.specs.declared.answers.FollowReply.{FollowReply}
use Rattle.tesla_follow.specs.declared.answers.FollowReply.TheVariants.{Early, Empty, Over}
use Rattle.tesla_follow.specs.Followed.{Accepted, Followed, FollowedEpoch, acceptance_in, acceptance_with, after_asking, after_next, after_opening, after_text, arrival_in, arrived_in, changed_at, early_head, gives_asked, gives_none, has_room, most_promises, next_of, no_epoch, nothing_followed, oldest, open_epochs, place_for, queued_by, queued_of, replies_in, reply_early, takes_in_turn, takes_one}
use Rattle.tesla_follow.specs.History.{FollowEntry, IsFollowed, IsFollowedAfter, after_event, entry_of, epoch_at, event_of, followed}
use Rattle.tesla_follow.specs.Laws.{FromMessage, FromPacket, IsPromised, ReachesGiven, WasAccepted, epoch_numbered, message_at}
use Rattle.tesla_follow.proofs.Arrived.{queued_promised}
use Rattle.tesla_follow.proofs.Lawful.{AreLawful, IsLawful, all_drop, all_got, epoch_lawful, event_lawful, none_lawful, taught_count, taught_got}
use Rattle.tesla_follow.proofs.Places.{AreExtended, Extends, asking_moves, event_moves, extended_got, got_still, history_moves, nexted, place_open, put_last, some_still}

-- ---- one message

was_still : (old new : FollowedEpoch) (place : ℕ) (message : Message) → Extends old new → WasAccepted old place message → WasAccepted new place message
was_still old new place message grows was =
    let within = slice_get_within old.teaching place (Arrived was.arrival) was.teaches in
    let same : take place new.teaching ≡ take place old.teaching = ap (take place) grows.teaching.1 ∙ take-append-le place old.teaching grows.teaching.0 (omega (arith, within)) in
    record {
      arrival = was.arrival;
      arrived = got_still old.history new.history grows.history.0 place (Arrived was.arrival) grows.history.1 was.arrived;
      teaches = got_still old.teaching new.teaching grows.teaching.0 place (Arrived was.arrival) grows.teaching.1 was.teaches;
      early = ap (λ (before : List Entry). is_early most_promises before was.arrival) same ∙ was.early;
      candidate_is = was.candidate_is;
    }

-- a message that waits was accepted in its epoch
record Waits (es : List FollowedEpoch) (accepted : Accepted) : Type 0 where
  epoch : FollowedEpoch
  is : slice_get es accepted.epoch ≡ Some epoch
  place : ℕ
  was : WasAccepted epoch place accepted.message

abbrev AllWait : List FollowedEpoch → List Accepted → Type 0
AllWait es queue = AllByRecursion (Waits es) queue

waits_still : (es fs : List FollowedEpoch) (accepted : Accepted) → AreExtended es fs → Waits es accepted → Waits fs accepted
waits_still es fs accepted grows waits =
    let got = extended_got es fs accepted.epoch waits.epoch grows waits.is in
    record { epoch = got.0; is = got.1; place = waits.place; was = was_still waits.epoch got.0 waits.place accepted.message got.2 waits.was }

wait_still : (es fs : List FollowedEpoch) (queue : List Accepted) → AreExtended es fs → AllWait es queue → AllWait fs queue
wait_still es fs [] grows all = tt
wait_still es fs (accepted ∷ queue) grows all = (waits_still es fs accepted grows all.0, wait_still es fs queue grows all.1)

wait_join : (es : List FollowedEpoch) (queue more : List Accepted) → AllWait es queue → AllWait es more → AllWait es (queue ++ more)
wait_join es [] more all others = others
wait_join es (accepted ∷ queue) more all others = (all.0, wait_join es queue more all.1 others)

-- ---- an arrival

module _ (es : List FollowedEpoch) (number : ℕ) (e : FollowedEpoch) (arrival : Arrival) (own : IsLawful e) where
  -- the message of an arrival that was accepted
  accepted_waits : slice_get es number ≡ Some (arrived_in e acceptances.Queued arrival) → is_early most_promises e.teaching arrival ≡ true → (o : Option Message) → candidate arrival ≡ o → AllWait es (queued_of number o)
  accepted_waits at early None is = tt
  accepted_waits at early (Some message) is =
      let count = taught_count e.teaching e.history own.taught in (
        record {
          epoch = arrived_in e acceptances.Queued arrival;
          is = at;
          place = length e.teaching;
          was = record {
            arrival = arrival;
            arrived = ap (slice_get (e.history ++ Arrived arrival ∷ [])) count ∙ put_last e.history (Arrived arrival);
            teaches = put_last e.teaching (Arrived arrival);
            early = ap (λ (before : List Entry). is_early most_promises before arrival) (take-append_seam e.teaching (Arrived arrival ∷ [])) ∙ early;
            candidate_is = is;
          };
        },
        tt,
      )

  queued_waits : (acceptance : Acceptance) (room : Bool) → acceptance ≡ acceptance_with (is_early most_promises e.teaching arrival) room → slice_get es number ≡ Some (arrived_in e acceptance arrival) → AllWait es (queued_by number acceptance arrival)
  queued_waits acceptances.Unpromised room is at = tt
  queued_waits acceptances.Queued room is at = accepted_waits at (queued_promised (is_early most_promises e.teaching arrival) room is) (candidate arrival) refl
  queued_waits acceptances.Unqueued room is at = tt

got_behind : (n k : ℕ) (es fs : List FollowedEpoch) → n ≤ length es → slice_get (take n es ++ fs) (n + k) ≡ slice_get fs k
got_behind zero k es fs within = ap (slice_get fs) (let same : 0 + k ≡ k = omega arith in same)
got_behind (suc n) k [] fs within = absurd (omega (arith, within))
got_behind (suc n) k (e ∷ es) fs within = ap (slice_get (e ∷ take n es ++ fs)) (let same : suc n + k ≡ suc (n + k) = omega arith in same) ∙ got_behind n k es fs (omega (arith, within))

got_changed : (place : ℕ) (e : FollowedEpoch) (es : List FollowedEpoch) → place < length es → slice_get (changed_at place e es) place ≡ Some e
got_changed place e [] below = absurd (omega (arith, below))
got_changed zero e (x ∷ es) below = refl
got_changed (suc place) e (x ∷ es) below = got_changed place e es (omega (arith, below))

-- ---- a take

pub next_queue : (cfg : Config) (it : Followed) (payload : List ℕ) (next : FollowNext) → (after_next cfg it payload next).queue ≡ it.queue
next_queue cfg it payload Opened = text_queue (handover_text payload)
  where
    opening_queue : (r : Result Parts (ℕ × SetupKind)) → (after_opening cfg it r).queue ≡ it.queue
    opening_queue (Err refused) = refl
    opening_queue (Ok setup) = refl

    text_queue : (o : Option (List ℕ)) → (after_text cfg it o).queue ≡ it.queue
    text_queue None = refl
    text_queue (Some text) = opening_queue (judged text)
next_queue cfg it payload Plain = refl
next_queue cfg it payload (Old newest) = refl
next_queue cfg it payload EpochsSpent = refl
next_queue cfg it payload (BadSetup line kind) = refl
next_queue cfg it payload (EqualCommitments chain) = refl
next_queue cfg it payload (UsedStream stream) = refl

abbrev Wait : Followed → Type 0
Wait it = AllWait it.epochs it.queue

next_waits : (cfg : Config) (it : Followed) (payload : List ℕ) (next : FollowNext) → Wait it → Wait (after_next cfg it payload next)
next_waits cfg it payload next all =
    let after = after_next cfg it payload next in
    subst (AllWait after.epochs) (sym (next_queue cfg it payload next)) (wait_still it.epochs after.epochs it.queue (nexted cfg it payload next) all)

none_waits : (it : Followed) (answers : List Reply) (queue : List Accepted) → Wait it → AllWait it.epochs queue → Wait (gives_none it answers queue).after
none_waits it answers [] all same = all
none_waits it answers (accepted ∷ others) all same = same.1

asked_waits : (cfg : Config) (it : Followed) (answers : List Reply) (number : ℕ) (rs : List Reply) → Wait it → Wait (gives_asked cfg it answers number rs).after
asked_waits cfg it answers number [] all = none_waits it answers it.queue all all
asked_waits cfg it answers number (replies.Given head payload ∷ rs) all = next_waits cfg (record it { turn = true; records = suc it.records }) payload (next_of it number payload) all
asked_waits cfg it answers number (replies.Empty ∷ rs) all = asked_waits cfg it answers (suc number) rs all
asked_waits cfg it answers number (replies.Over ∷ rs) all = asked_waits cfg it answers (suc number) rs all

released_waits : (cfg : Config) (it : Followed) (releaser : ℕ) → Wait it → Wait (gives_asked cfg (after_asking it releaser) (replies_in it) (oldest it) (replies_in it)).after
released_waits cfg it releaser all =
    asked_waits cfg (after_asking it releaser) (replies_in it) (oldest it) (replies_in it) (wait_still it.epochs (after_asking it releaser).epochs it.queue (asking_moves it releaser) all)

taken_waits : (cfg : Config) (it : Followed) (releaser : ℕ) (turn : Bool) (queue : List Accepted) → Wait it → AllWait it.epochs queue → Wait (takes_in_turn cfg it releaser turn queue).after
taken_waits cfg it releaser turn [] all same = released_waits cfg it releaser all
taken_waits cfg it releaser true (accepted ∷ others) all same = same.1
taken_waits cfg it releaser false (accepted ∷ others) all same = released_waits cfg it releaser all

-- ---- events

event_waits : (cfg : Config) (it : Followed) (event : Event) → 1 ≤ length it.epochs → AreLawful it.epochs → Wait it → Wait (after_event cfg it event)
event_waits cfg it (Arrives ingest reading bytes) some lawful all =
    let place = place_for it bytes in
    let epoch = epoch_at cfg it place in
    let arrival = arrival_in epoch ingest reading bytes in
    let acceptance = acceptance_in cfg it epoch arrival in
    let arrived : FollowedEpoch = arrived_in epoch acceptance arrival in
    let after = after_event cfg it (Arrives ingest reading bytes) in
    let own : IsLawful epoch = all_got (open_epochs it) place (no_epoch cfg) (all_drop (oldest it) it.epochs lawful) (none_lawful cfg) in
    let at : slice_get after.epochs (oldest it + place) ≡ Some arrived =
    got_behind (oldest it) place it.epochs (changed_at place arrived (open_epochs it)) (omega arith) ∙ got_changed place arrived (open_epochs it) (place_open it bytes some) in
    wait_join after.epochs it.queue (queued_by (oldest it + place) acceptance arrival) (wait_still it.epochs after.epochs it.queue (event_moves cfg it (Arrives ingest reading bytes)) all)
    (queued_waits after.epochs (oldest it + place) epoch arrival own acceptance (has_room cfg it) refl at)
event_waits cfg it (Takes releaser) some lawful all = taken_waits cfg it releaser it.turn it.queue all all
event_waits cfg it (Ends ingest) some lawful all = wait_still it.epochs (after_event cfg it (Ends ingest)).epochs it.queue (event_moves cfg it (Ends ingest)) all

entries_wait : (cfg : Config) (entries : List FollowEntry) (it : Followed) → 1 ≤ length it.epochs → AreLawful it.epochs → Wait it → Wait (fold (λ made entry. after_event cfg made (event_of entry)) it entries)
entries_wait cfg [] it some lawful all = all
entries_wait cfg (entry ∷ entries) it some lawful all =
    let event = event_of entry in
    entries_wait cfg entries (after_event cfg it event) (some_still it.epochs (after_event cfg it event).epochs (event_moves cfg it event) some) (event_lawful cfg it event lawful) (event_waits cfg it event some lawful all)

history_waits : (cfg : Config) (h : List FollowEntry) → Wait (followed cfg h)
unfolding followed
history_waits cfg h = entries_wait cfg h (nothing_followed cfg) (omega arith) (none_lawful cfg, tt) tt

-- ---- the message that is given

-- the answer is the first of the messages that wait
record IsFirst (it : Followed) (epoch : ℕ) (head : Head) (payload : List ℕ) : Type 0 where
  first : Accepted
  others : List Accepted
  queue_is : it.queue ≡ first ∷ others
  reply_is : Early epoch head payload ≡ reply_early it first

none_answers : (b : Bool) (epoch : ℕ) (head : Head) (payload : List ℕ) → Early epoch head payload ≡ cond b Over Empty → ⊥
none_answers true epoch head payload is = absurd cc
none_answers false epoch head payload is = absurd cc

none_first : (it : Followed) (answers : List Reply) (queue : List Accepted) (epoch : ℕ) (head : Head) (payload : List ℕ) → it.queue ≡ queue → Early epoch head payload ≡ (gives_none it answers queue).reply → IsFirst it epoch head payload
none_first it answers [] epoch head payload same is = absurd (none_answers (list_all is_over answers) epoch head payload is)
none_first it answers (accepted ∷ others) epoch head payload same is = record { first = accepted; others = others; queue_is = same; reply_is = is }

asked_first : (cfg : Config) (it : Followed) (answers : List Reply) (number : ℕ) (rs : List Reply) (epoch : ℕ) (head : Head) (payload : List ℕ) → Early epoch head payload ≡ (gives_asked cfg it answers number rs).reply → IsFirst it epoch head payload
asked_first cfg it answers number [] epoch head payload is = none_first it answers it.queue epoch head payload refl is
asked_first cfg it answers number (replies.Given h p ∷ rs) epoch head payload is = absurd cc
asked_first cfg it answers number (replies.Empty ∷ rs) epoch head payload is = asked_first cfg it answers (suc number) rs epoch head payload is
asked_first cfg it answers number (replies.Over ∷ rs) epoch head payload is = asked_first cfg it answers (suc number) rs epoch head payload is

released_first : (cfg : Config) (it : Followed) (releaser epoch : ℕ) (head : Head) (payload : List ℕ) → Early epoch head payload ≡ (gives_asked cfg (after_asking it releaser) (replies_in it) (oldest it) (replies_in it)).reply → IsFirst it epoch head payload
released_first cfg it releaser epoch head payload is =
    let first = asked_first cfg (after_asking it releaser) (replies_in it) (oldest it) (replies_in it) epoch head payload is in
    record { first = first.first; others = first.others; queue_is = first.queue_is; reply_is = first.reply_is }

taken_first : (cfg : Config) (it : Followed) (releaser : ℕ) (turn : Bool) (queue : List Accepted) (epoch : ℕ) (head : Head) (payload : List ℕ) → it.queue ≡ queue → Early epoch head payload ≡ (takes_in_turn cfg it releaser turn queue).reply → IsFirst it epoch head payload
taken_first cfg it releaser turn [] epoch head payload same is = released_first cfg it releaser epoch head payload is
taken_first cfg it releaser true (accepted ∷ others) epoch head payload same is = record { first = accepted; others = others; queue_is = same; reply_is = is }
taken_first cfg it releaser false (accepted ∷ others) epoch head payload same is = released_first cfg it releaser epoch head payload is

-- an answer is that of its event after the entries before it
followed_at : (cfg : Config) (before h : List FollowEntry) (n : ℕ) (e : FollowEntry) → IsFollowedAfter cfg before h → slice_get h n ≡ Some e → e ≡ entry_of cfg (followed cfg (before ++ take n h)) (event_of e)
followed_at cfg before [] n e l is = absurd cc
followed_at cfg before (x ∷ h) zero e l is =
    let same : x ≡ e = cc in
    subst (λ (o : FollowEntry). o ≡ entry_of cfg (followed cfg (before ++ [])) (event_of o)) same
    (subst (λ (b : List FollowEntry). x ≡ entry_of cfg (followed cfg b) (event_of x)) (sym (append-nil before)) l.0)
followed_at cfg before (x ∷ h) (suc n) e l is =
    subst (λ (b : List FollowEntry). e ≡ entry_of cfg (followed cfg b) (event_of e)) (append_assoc before (x ∷ []) (take n h)) (followed_at cfg (before ++ x ∷ []) h n e l.1 is)

-- ---- where its promise stood

-- the entry that taught a payload is there in the epoch's own history
gave_in : (e : FollowedEpoch) (place : ℕ) (payload : List ℕ) → IsLawful e → Gave e.teaching place payload → Gave e.history place payload
gave_in e place payload own gave =
    let got = taught_got e.teaching e.history place (Taken gave.releaser (replies.Given gave.head payload)) own.taught gave.is in
    record { releaser = gave.releaser; head = gave.head; is = got.1 ∙ ap Some (sym got.2) }

was_in : (e : FollowedEpoch) (place : ℕ) (message : Message) → IsLawful e → WasEarly most_promises e.teaching place message → WasAccepted e place message
was_in e place message own early =
    let got = taught_got e.teaching e.history place (Arrived early.arrival) own.taught early.is in
    record { arrival = early.arrival; arrived = got.1 ∙ ap Some (sym got.2); teaches = early.is; early = early.early; candidate_is = early.candidate_is }

early_in : (e : FollowedEpoch) (place : ℕ) (message : Message) → WasAccepted e place message → WasEarly most_promises e.teaching place message
early_in e place message was = record { arrival = was.arrival; is = was.teaches; early = was.early; candidate_is = was.candidate_is }

reaches_below : (e : FollowedEpoch) (n place : ℕ) (message : Message) → place < n → IsLawful e → WasAccepted e place message → ReachesGiven e place message
reaches_below e zero place message below own was = absurd (omega (arith, below))
reaches_below e (suc n) place message below own was =
    let promised = was_promised most_promises e.teaching place message (early_in e place message was) in
    let earlier = promised.before in
    ⊎_elim
    (λ gave. (let own_gave = gave_in e promised.teacher promised.payload own gave in
    FromPacket place message promised.teacher promised.payload earlier own_gave (gave_released e.config e.history promised.teacher promised.payload own.legal own_gave) promised.promise))
    (λ early. (let before : Message = record { name = early.0; payload = promised.payload } in
    let was_before = was_in e promised.teacher before own early.1 in
    FromMessage place message promised.teacher before earlier was_before promised.promise (reaches_below e n promised.teacher before (omega (arith, below, earlier)) own was_before)))
    promised.taught

-- ---- the law

same_reply : (releaser : ℕ) (reply other : FollowReply) → ◌≡◌ {A = FollowEntry} (Taken releaser reply) (Taken releaser other) → reply ≡ other
same_reply releaser reply other is = cc

-- an answer names the message that it gives
first_message : (records epoch : ℕ) (head : Head) (payload : List ℕ) (first : Accepted) → Early epoch head payload ≡ Early first.epoch (early_head records first.message) first.message.payload → (first.epoch ≡ epoch) × (first.message ≡ message_at head payload)
first_message records epoch head payload first is =
    let number : epoch ≡ first.epoch = cc in
    let heads : head ≡ early_head records first.message = cc in
    let text : payload ≡ first.message.payload = cc in
    let whole : message_at head payload ≡ first.message = ap (λ (h : Head). message_at h payload) heads ∙ ap (message_at (early_head records first.message)) text in
    (sym number, sym whole)

pub promised_in : (cfg : Config) (h : List FollowEntry) (n releaser epoch : ℕ) (head : Head) (payload : List ℕ) → IsFollowed cfg h → slice_get h n ≡ Some (Taken releaser (Early epoch head payload))
    → IsPromised (epoch_numbered cfg h epoch) (message_at head payload)
promised_in cfg h n releaser epoch head payload legal is =
    let it = followed cfg (take n h) in
    let made = followed cfg h in
    let answer : Taken releaser (Early epoch head payload) ≡ entry_of cfg it (Takes releaser) = followed_at cfg [] h n (Taken releaser (Early epoch head payload)) legal is in
    let first = taken_first cfg it releaser it.turn it.queue epoch head payload refl (same_reply releaser (Early epoch head payload) (takes_one cfg it releaser).reply answer) in
    let named = first_message it.records epoch head payload first.first first.reply_is in
    let waits : Waits it.epochs first.first = (subst (AllWait it.epochs) first.queue_is (history_waits cfg (take n h))).0 in
    let grows : AreExtended it.epochs made.epochs = subst (λ (x : List FollowEntry). AreExtended it.epochs (followed cfg x).epochs) (take-append-drop n h) (history_moves cfg (take n h) (drop n h)) in
    let now = waits_still it.epochs made.epochs first.first grows waits in
    let own : epoch_numbered cfg h epoch ≡ now.epoch = ap (epoch_numbered cfg h) (sym named.0) ∙ get_or_from_slice_get made.epochs first.first.epoch now.epoch (no_epoch cfg) now.is in
    let was : WasAccepted (epoch_numbered cfg h epoch) now.place (message_at head payload) =
    subst (λ (e : FollowedEpoch). WasAccepted e now.place (message_at head payload)) (sym own) (subst (λ (m : Message). WasAccepted now.epoch now.place m) named.1 now.was) in
    record { place = now.place; was = was; reaches = reaches_below (epoch_numbered cfg h epoch) (suc now.place) now.place (message_at head payload) (omega arith) (epoch_lawful cfg h epoch) was }
