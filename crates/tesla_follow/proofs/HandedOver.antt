-- The setup of each epoch after the first was handed over by the epoch before it.
use Rattle.std.proofs.Common.{◌≡◌, ℕ, zero, suc, ◌+◌, ◌-◌, ◌≤◌, ◌<◌, ◌==◌, not, Bool, true, false, cond, List, [], ◌∷◌, ◌++◌, length, map, take, get_or, Option, Some, None, Result, Ok, Err, refl, sym, ap, subst, ◌∙◌, arith}
use Rattle.std.specs.Prelude.{slice_get}
use Rattle.std.specs.List.{fold}
use Rattle.std.proofs.lemmas.Bool.{eqb-true}
use Rattle.std.proofs.lemmas.List.{length-map, length-take-le}
use Rattle.tesla_base.specs.declared.release.Head.{Head}
use Rattle.tesla_commit.specs.Parsing.{judged}
use Rattle.tesla_commit.specs.Parts.{Parts}
use Rattle.tesla_commit.specs.declared.refusal.SetupKind.{SetupKind}
use Rattle.tesla_fitting.specs.declared.config.Config.{Config}
use Rattle.tesla_receiver.specs.History.{Event, Arrives, Ends, Takes}
use Rattle.tesla_receiver.specs.declared.history.Entry.TheVariants.{Taken}
use Rattle.tesla_state.specs.declared.replies.Reply.{Reply}
use Rattle.tesla_state.specs.declared.replies.Reply.TheVariants as replies
use Rattle.tesla_rollover.specs.Epochs.{up_to_given}
use Rattle.tesla_rollover.specs.Handover.{handover_text, setup_judged, setup_spelled}
use Rattle.tesla_follow.specs.declared.answers.FollowNext.{FollowNext}
use Rattle.tesla_follow.specs.declared.answers.FollowNext.TheVariants.{Plain, Old, EpochsSpent, BadSetup, EqualCommitments, UsedStream, Opened}
use Rattle.tesla_follow.specs.Followed.{Accepted, Followed, FollowedEpoch, acceptance_in, after_asking, after_next, after_opening, after_text, arrival_in, arrived_in, asked_all, asked_with, changed_at, ended_in, epoch_of, gives_asked, gives_none, most_numbered, next_judged, next_of, next_spelled, no_epoch, nothing_followed, oldest, open_epochs, place_for, replies_in, takes_in_turn}
use Rattle.tesla_follow.specs.History.{FollowEntry, after_event, epoch_at, event_of, followed}
use Rattle.tesla_follow.specs.Kept.{reply_of}
use Rattle.tesla_follow.specs.Laws.{HandsOver, IsHandedOver}
use Rattle.tesla_follow.proofs.Moved.{asked_count, changed_count, changed_size}
use Rattle.tesla_follow.proofs.Places.{AreExtended, Extends, asking_moves, event_moves, got_still, place_open, put_last, some_still}

-- ---- epochs that hand over one to the next

-- each of the epochs was handed over to by the one before it
abbrev LinkedFrom : FollowedEpoch → List FollowedEpoch → Type 0
LinkedFrom e [] = Unit {0}
LinkedFrom e (f ∷ fs) = HandsOver e f × LinkedFrom f fs

abbrev AreLinked : List FollowedEpoch → Type 0
AreLinked [] = Unit {0}
AreLinked (e ∷ es) = LinkedFrom e es

hands_still : (e f new next : FollowedEpoch) → HandsOver e f → Extends e new → Extends f next → HandsOver new next
hands_still e f new next hands grows more = record {
  releaser = hands.releaser;
  head = hands.head;
  payload = hands.payload;
  place = hands.place;
  gave = got_still e.history new.history grows.history.0 hands.place (Taken hands.releaser (replies.Given hands.head hands.payload)) grows.history.1 hands.gave;
  handed = hands.handed ∙ ap (λ (c : Config). c.setup ∷ []) (sym more.config);
}

linked_from_still : (e f : FollowedEpoch) (es fs : List FollowedEpoch) → Extends e f → AreExtended es fs → length fs ≡ length es → LinkedFrom e es → LinkedFrom f fs
linked_from_still e f [] [] grows more long linked = tt
linked_from_still e f [] (y ∷ fs) grows more long linked = absurd (omega (arith, long))
linked_from_still e f (x ∷ es) [] grows more long linked = absurd more
linked_from_still e f (x ∷ es) (y ∷ fs) grows more long linked = (hands_still e x f y linked.0 grows more.0, linked_from_still x y es fs more.0 more.1 (omega (arith, long)) linked.1)

-- as many epochs, with further entries
linked_still : (es fs : List FollowedEpoch) → AreExtended es fs → length fs ≡ length es → AreLinked es → AreLinked fs
linked_still [] [] grows long linked = tt
linked_still [] (f ∷ fs) grows long linked = absurd (omega (arith, long))
linked_still (e ∷ es) [] grows long linked = tt
linked_still (e ∷ es) (f ∷ fs) grows long linked = linked_from_still e f es fs grows.0 grows.1 (omega (arith, long)) linked

-- an epoch more, which the last one hands over to
linked_from_more : (e : FollowedEpoch) (es : List FollowedEpoch) (n : ℕ) (last next : FollowedEpoch) → slice_get (e ∷ es) n ≡ Some last → suc n ≡ length (e ∷ es) → HandsOver last next → LinkedFrom e es → LinkedFrom e (es ++ next ∷ [])
linked_from_more e [] zero last next is at hands linked = let same : last ≡ e = cc in (subst (λ (o : FollowedEpoch). HandsOver o next) same hands, tt)
linked_from_more e [] (suc n) last next is at hands linked = absurd (omega (arith, at))
linked_from_more e (f ∷ fs) zero last next is at hands linked = absurd (omega (arith, at))
linked_from_more e (f ∷ fs) (suc n) last next is at hands linked = (linked.0, linked_from_more f fs n last next is (omega (arith, at)) hands linked.1)

linked_more : (es : List FollowedEpoch) (n : ℕ) (last next : FollowedEpoch) → slice_get es n ≡ Some last → suc n ≡ length es → HandsOver last next → AreLinked es → AreLinked (es ++ next ∷ [])
linked_more [] n last next is at hands linked = tt
linked_more (e ∷ es) n last next is at hands linked = linked_from_more e es n last next is at hands linked

linked_from_at : (e : FollowedEpoch) (es : List FollowedEpoch) (n : ℕ) (d : FollowedEpoch) → suc n < length (e ∷ es) → LinkedFrom e es → HandsOver (get_or (e ∷ es) n d) (get_or (e ∷ es) (suc n) d)
linked_from_at e [] n d below linked = absurd (omega (arith, below))
linked_from_at e (f ∷ fs) zero d below linked = linked.0
linked_from_at e (f ∷ fs) (suc n) d below linked = linked_from_at f fs n d (omega (arith, below)) linked.1

linked_at : (es : List FollowedEpoch) (n : ℕ) (d : FollowedEpoch) → suc n < length es → AreLinked es → HandsOver (get_or es n d) (get_or es (suc n) d)
linked_at [] n d below linked = absurd (omega (arith, below))
linked_at (e ∷ es) n d below linked = linked_from_at e es n d below linked

-- ---- the epochs that were asked

-- the epoch of this number gave a packet with this payload
record HasGiven (es : List FollowedEpoch) (number : ℕ) (head : Head) (payload : List ℕ) : Type 0 where
  epoch : FollowedEpoch
  is : slice_get es number ≡ Some epoch
  releaser : ℕ
  place : ℕ
  gave : slice_get epoch.history place ≡ Some (Taken releaser (replies.Given head payload))

-- the epochs from this number on gave the packets of these answers
abbrev HaveGiven : List FollowedEpoch → ℕ → List Reply → Type 0
HaveGiven es number [] = Unit {0}
HaveGiven es number (replies.Given head payload ∷ rs) = HasGiven es number head payload
HaveGiven es number (replies.Empty ∷ rs) = HaveGiven es (suc number) rs
HaveGiven es number (replies.Over ∷ rs) = HaveGiven es (suc number) rs

given_behind_one : (e : FollowedEpoch) (es : List FollowedEpoch) (number : ℕ) (rs : List Reply) → HaveGiven es number rs → HaveGiven (e ∷ es) (suc number) rs
given_behind_one e es number [] given = tt
given_behind_one e es number (replies.Given head payload ∷ rs) given = record { epoch = given.epoch; is = given.is; releaser = given.releaser; place = given.place; gave = given.gave }
given_behind_one e es number (replies.Empty ∷ rs) given = given_behind_one e es (suc number) rs given
given_behind_one e es number (replies.Over ∷ rs) given = given_behind_one e es (suc number) rs given

given_behind : (before es : List FollowedEpoch) (number : ℕ) (rs : List Reply) → HaveGiven es number rs → HaveGiven (before ++ es) (length before + number) rs
given_behind [] es number rs given = subst (λ (n : ℕ). HaveGiven es n rs) (let same : number ≡ 0 + number = omega arith in same) given
given_behind (e ∷ before) es number rs given =
    subst (λ (n : ℕ). HaveGiven (e ∷ before ++ es) n rs) (let count : suc (length before + number) ≡ length (e ∷ before) + number = omega arith in count)
    (given_behind_one e (before ++ es) (length before + number) rs (given_behind before es number rs given))

given_asked : (releaser : ℕ) (rs : List Reply) (es : List FollowedEpoch) → length rs ≤ length es → HaveGiven (asked_all releaser rs es) 0 rs
given_asked releaser [] es few = tt
given_asked releaser (r ∷ rs) [] few = absurd (omega (arith, few))
given_asked releaser (replies.Given head payload ∷ rs) (e ∷ es) few = record {
  epoch = asked_with releaser (replies.Given head payload) e;
  is = refl;
  releaser = releaser;
  place = length e.history;
  gave = put_last e.history (Taken releaser (replies.Given head payload));
}
given_asked releaser (replies.Empty ∷ rs) (e ∷ es) few = given_behind_one (asked_with releaser replies.Empty e) (asked_all releaser rs es) 0 rs (given_asked releaser rs es (omega (arith, few)))
given_asked releaser (replies.Over ∷ rs) (e ∷ es) few = given_behind_one (asked_with releaser replies.Over e) (asked_all releaser rs es) 0 rs (given_asked releaser rs es (omega (arith, few)))

asked_few : (rs : List Reply) → length (up_to_given rs) ≤ length rs
asked_few [] = omega arith
asked_few (replies.Given head payload ∷ rs) = omega arith
asked_few (replies.Empty ∷ rs) = let rest = asked_few rs in omega (arith, rest)
asked_few (replies.Over ∷ rs) = let rest = asked_few rs in omega (arith, rest)

given_now : (it : Followed) (releaser : ℕ) → HaveGiven (after_asking it releaser).epochs (oldest it) (replies_in it)
given_now it releaser =
    let few : length (replies_in it) ≤ length (open_epochs it) = (let some = asked_few (map reply_of (open_epochs it)) in let all = length-map (open_epochs it) reply_of in omega (arith, some, all)) in
    let count : length (take (oldest it) it.epochs) + 0 ≡ oldest it = (let size = length-take-le (oldest it) it.epochs (omega arith) in omega (arith, size)) in
    subst (λ (n : ℕ). HaveGiven (after_asking it releaser).epochs n (replies_in it)) count
    (given_behind (take (oldest it) it.epochs) (asked_all releaser (replies_in it) (open_epochs it)) 0 (replies_in it) (given_asked releaser (replies_in it) (open_epochs it) few))

-- ---- an opening

newest_is : (b : Bool) (newest : ℕ) (other : FollowNext) → Opened ≡ cond (not b) (Old newest) other → b ≡ true
newest_is true newest other is = refl
newest_is false newest other is = absurd cc

module _ (cfg : Config) (it given : Followed) (epoch : ℕ) (head : Head) (payload : List ℕ) (same : given.epochs ≡ it.epochs) (linked : AreLinked it.epochs) (gave : HasGiven it.epochs epoch head payload) where
  still : AreLinked given.epochs
  still = subst AreLinked (sym same) linked

  judged_linked : (text : List ℕ) → handover_text payload ≡ Some text → suc epoch ≡ length it.epochs → (r : Result Parts (ℕ × SetupKind)) → judged text ≡ r → AreLinked (after_opening cfg given r).epochs
  judged_linked text spelled newest (Err refused) is = still
  judged_linked text spelled newest (Ok setup) is =
      subst (λ (es : List FollowedEpoch). AreLinked (es ++ epoch_of cfg given setup ∷ [])) (sym same)
      (linked_more it.epochs epoch gave.epoch (epoch_of cfg given setup) gave.is newest
      (record { releaser = gave.releaser; head = head; payload = payload; place = gave.place; gave = gave.gave; handed = ap setup_spelled spelled ∙ ap setup_judged is }) linked)

  text_linked : (o : Option (List ℕ)) → handover_text payload ≡ o → Opened ≡ next_spelled it epoch o → AreLinked (after_text cfg given o).epochs
  text_linked None spelled opens = still
  text_linked (Some text) spelled opens =
      judged_linked text spelled
      (eqb-true (suc epoch) (length it.epochs) (newest_is (suc epoch == length it.epochs) (length it.epochs - 1) (cond (length it.epochs == most_numbered) EpochsSpent (next_judged it (judged text))) opens)) (judged text) refl

  next_linked : (next : FollowNext) → next ≡ next_of it epoch payload → AreLinked (after_next cfg given payload next).epochs
  next_linked Opened opens = text_linked (handover_text payload) refl opens
  next_linked Plain opens = still
  next_linked (Old newest) opens = still
  next_linked EpochsSpent opens = still
  next_linked (BadSetup line kind) opens = still
  next_linked (EqualCommitments chain) opens = still
  next_linked (UsedStream stream) opens = still

-- ---- events

none_linked : (it : Followed) (answers : List Reply) (queue : List Accepted) → AreLinked it.epochs → AreLinked (gives_none it answers queue).after.epochs
none_linked it answers [] linked = linked
none_linked it answers (accepted ∷ others) linked = linked

asked_linked : (cfg : Config) (it : Followed) (answers : List Reply) (number : ℕ) (rs : List Reply) → AreLinked it.epochs → HaveGiven it.epochs number rs → AreLinked (gives_asked cfg it answers number rs).after.epochs
asked_linked cfg it answers number [] linked given = none_linked it answers it.queue linked
asked_linked cfg it answers number (replies.Given head payload ∷ rs) linked given = next_linked cfg it (record it { turn = true; records = suc it.records }) number head payload refl linked given (next_of it number payload) refl
asked_linked cfg it answers number (replies.Empty ∷ rs) linked given = asked_linked cfg it answers (suc number) rs linked given
asked_linked cfg it answers number (replies.Over ∷ rs) linked given = asked_linked cfg it answers (suc number) rs linked given

released_linked : (cfg : Config) (it : Followed) (releaser : ℕ) → AreLinked it.epochs → AreLinked (gives_asked cfg (after_asking it releaser) (replies_in it) (oldest it) (replies_in it)).after.epochs
released_linked cfg it releaser linked =
    asked_linked cfg (after_asking it releaser) (replies_in it) (oldest it) (replies_in it)
    (linked_still it.epochs (after_asking it releaser).epochs (asking_moves it releaser) (changed_count it (asked_all releaser (replies_in it) (open_epochs it)) (asked_count releaser (replies_in it) (open_epochs it))) linked)
    (given_now it releaser)

taken_linked : (cfg : Config) (it : Followed) (releaser : ℕ) (turn : Bool) (queue : List Accepted) → AreLinked it.epochs → AreLinked (takes_in_turn cfg it releaser turn queue).after.epochs
taken_linked cfg it releaser turn [] linked = released_linked cfg it releaser linked
taken_linked cfg it releaser true (accepted ∷ others) linked = linked
taken_linked cfg it releaser false (accepted ∷ others) linked = released_linked cfg it releaser linked

event_linked : (cfg : Config) (it : Followed) (event : Event) → 1 ≤ length it.epochs → AreLinked it.epochs → AreLinked (after_event cfg it event).epochs
event_linked cfg it (Arrives ingest reading bytes) some linked =
    let place = place_for it bytes in
    let epoch = epoch_at cfg it place in
    let arrival = arrival_in epoch ingest reading bytes in
    let arrived : FollowedEpoch = arrived_in epoch (acceptance_in cfg it epoch arrival) arrival in
    linked_still it.epochs (after_event cfg it (Arrives ingest reading bytes)).epochs (event_moves cfg it (Arrives ingest reading bytes))
    (changed_count it (changed_at place arrived (open_epochs it)) (changed_size place arrived (open_epochs it) (place_open it bytes some))) linked
event_linked cfg it (Takes releaser) some linked = taken_linked cfg it releaser it.turn it.queue linked
event_linked cfg it (Ends ingest) some linked =
    linked_still it.epochs (after_event cfg it (Ends ingest)).epochs (event_moves cfg it (Ends ingest)) (changed_count it (map (ended_in ingest) (open_epochs it)) (length-map (open_epochs it) (ended_in ingest))) linked

-- ---- a whole history

entries_linked : (cfg : Config) (entries : List FollowEntry) (it : Followed) → 1 ≤ length it.epochs → AreLinked it.epochs → AreLinked (fold (λ made entry. after_event cfg made (event_of entry)) it entries).epochs
entries_linked cfg [] it some linked = linked
entries_linked cfg (entry ∷ entries) it some linked =
    entries_linked cfg entries (after_event cfg it (event_of entry)) (some_still it.epochs (after_event cfg it (event_of entry)).epochs (event_moves cfg it (event_of entry)) some) (event_linked cfg it (event_of entry) some linked)

history_linked : (cfg : Config) (h : List FollowEntry) → AreLinked (followed cfg h).epochs
unfolding followed
history_linked cfg h = entries_linked cfg h (nothing_followed cfg) (omega arith) tt

pub handed_over : (cfg : Config) (h : List FollowEntry) (epoch : ℕ) → suc epoch < length (followed cfg h).epochs → IsHandedOver cfg h epoch
handed_over cfg h epoch below = linked_at (followed cfg h).epochs epoch (no_epoch cfg) below (history_linked cfg h)
