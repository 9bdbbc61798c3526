-- Each message that was accepted is given once, in order, or waits.
use Rattle.std.proofs.Common.{◌≡◌, ℕ, suc, ◌+◌, Bool, true, false, cond, List, [], ◌∷◌, ◌++◌, append_assoc, refl, sym, ap, subst, ◌∙◌}
use Rattle.std.specs.List.{flat_map, list_all}
use Rattle.std.proofs.lemmas.List.{append-nil}
use Rattle.std.proofs.lemmas.List.Concat.{flat_map-append}
use Rattle.tesla_fitting.specs.declared.config.Config.{Config}
use Rattle.tesla_receiver.specs.History.{Event, Arrives, Ends, Takes}
use Rattle.tesla_receiver.specs.declared.history.Entry.TheVariants.{Taken}
use Rattle.tesla_state.specs.declared.replies.Reply.{Reply}
use Rattle.tesla_state.specs.declared.replies.Reply.TheVariants as replies
use Rattle.tesla_rollover.specs.Replies.{is_over}
use Rattle.tesla_follow.specs.declared.answers.FollowReply.TheVariants.{Empty, Over}
use Rattle.tesla_follow.specs.Followed.{Accepted, Followed, TakesOne, acceptance_in, after_asking, arrival_in, gives_asked, gives_none, has_room, next_of, oldest, place_for, replies_in, takes_in_turn}
use Rattle.tesla_follow.specs.History.{FollowEntry, IsFollowed, IsFollowedAfter, after_event, entry_of, epoch_at, event_of, followed}
use Rattle.tesla_follow.specs.Laws.{accepted_by, given_early}
use Rattle.tesla_follow.proofs.Accepting.{next_queue}
use Rattle.tesla_follow.proofs.Arrived.{waits_are}
use Rattle.tesla_follow.proofs.Histories.{followed_more, followed_none}

-- ---- a take

-- a message that is given was the first of those that waited, and the others wait
abbrev GivesFirst : TakesOne → ℕ → List Accepted → Type 0
GivesFirst takes releaser queue = given_early (Taken releaser takes.reply) ++ takes.after.queue ≡ queue

none_told : (b : Bool) (releaser : ℕ) (queue : List Accepted) → given_early (Taken releaser (cond b Over Empty)) ++ queue ≡ queue
none_told true releaser queue = refl
none_told false releaser queue = refl

none_first : (it : Followed) (answers : List Reply) (releaser : ℕ) (queue : List Accepted) → it.queue ≡ queue → GivesFirst (gives_none it answers queue) releaser queue
none_first it answers releaser [] same = none_told (list_all is_over answers) releaser it.queue ∙ same
none_first it answers releaser (accepted ∷ others) same = refl

asked_first : (cfg : Config) (it : Followed) (answers : List Reply) (releaser number : ℕ) (rs : List Reply) → GivesFirst (gives_asked cfg it answers number rs) releaser it.queue
asked_first cfg it answers releaser number [] = none_first it answers releaser it.queue refl
asked_first cfg it answers releaser number (replies.Given head payload ∷ rs) = next_queue cfg (record it { turn = true; records = suc it.records }) payload (next_of it number payload)
asked_first cfg it answers releaser number (replies.Empty ∷ rs) = asked_first cfg it answers releaser (suc number) rs
asked_first cfg it answers releaser number (replies.Over ∷ rs) = asked_first cfg it answers releaser (suc number) rs

taken_first : (cfg : Config) (it : Followed) (releaser : ℕ) (turn : Bool) (queue : List Accepted) → it.queue ≡ queue → GivesFirst (takes_in_turn cfg it releaser turn queue) releaser queue
taken_first cfg it releaser turn [] same = asked_first cfg (after_asking it releaser) (replies_in it) releaser (oldest it) (replies_in it) ∙ same
taken_first cfg it releaser true (accepted ∷ others) same = refl
taken_first cfg it releaser false (accepted ∷ others) same = asked_first cfg (after_asking it releaser) (replies_in it) releaser (oldest it) (replies_in it) ∙ same

-- ---- an event

-- those that waited, and what the entry accepted, are what the entry gave, and those that wait then
event_order : (cfg : Config) (it : Followed) (event : Event) → it.queue ++ accepted_by (entry_of cfg it event) ≡ given_early (entry_of cfg it event) ++ (after_event cfg it event).queue
event_order cfg it (Arrives ingest reading bytes) =
    let place = place_for it bytes in
    let epoch = epoch_at cfg it place in
    let arrival = arrival_in epoch ingest reading bytes in
    ap (λ (more : List Accepted). it.queue ++ more) (waits_are (oldest it + place) (acceptance_in cfg it epoch arrival) (has_room cfg it) epoch arrival refl)
event_order cfg it (Takes releaser) = append-nil it.queue ∙ sym (taken_first cfg it releaser it.turn it.queue refl)
event_order cfg it (Ends ingest) = append-nil it.queue

-- ---- a whole history

-- what was accepted is what was given, and what waits
abbrev IsInOrder : Config → List FollowEntry → Type 0
IsInOrder cfg h = flat_map accepted_by h ≡ flat_map given_early h ++ (followed cfg h).queue

single : {A : Type 0} (f : FollowEntry → List A) (h : List FollowEntry) (x : FollowEntry) → flat_map f (h ++ x ∷ []) ≡ flat_map f h ++ f x
single f h x = flat_map-append f h (x ∷ []) ∙ ap (λ ys. flat_map f h ++ ys) (append-nil (f x))

one_more : (cfg : Config) (h : List FollowEntry) (x : FollowEntry) → x ≡ entry_of cfg (followed cfg h) (event_of x) → IsInOrder cfg h → IsInOrder cfg (h ++ x ∷ [])
one_more cfg h x is so_far =
    let it = followed cfg h in
    let next = after_event cfg it (event_of x) in
    let step : it.queue ++ accepted_by x ≡ given_early x ++ next.queue = subst (λ (e : FollowEntry). it.queue ++ accepted_by e ≡ given_early e ++ next.queue) (sym is) (event_order cfg it (event_of x)) in
    single accepted_by h x ∙ ap (λ (these : List Accepted). these ++ accepted_by x) so_far ∙ append_assoc (flat_map given_early h) it.queue (accepted_by x)
    ∙ ap (λ (these : List Accepted). flat_map given_early h ++ these) step ∙ sym (append_assoc (flat_map given_early h) (given_early x) next.queue)
    ∙ ap (λ (these : List Accepted). these ++ next.queue) (sym (single given_early h x))
    ∙ ap (λ (made : Followed). flat_map given_early (h ++ x ∷ []) ++ made.queue) (sym (followed_more cfg h x))

all_more : (cfg : Config) (h more : List FollowEntry) → IsFollowedAfter cfg h more → IsInOrder cfg h → IsInOrder cfg (h ++ more)
all_more cfg h [] legal so_far = subst (IsInOrder cfg) (sym (append-nil h)) so_far
all_more cfg h (x ∷ more) legal so_far = subst (IsInOrder cfg) (append_assoc h (x ∷ []) more) (all_more cfg (h ++ x ∷ []) more legal.1 (one_more cfg h x legal.0 so_far))

pub in_order : (cfg : Config) (h : List FollowEntry) → IsFollowed cfg h → flat_map accepted_by h ≡ flat_map given_early h ++ (followed cfg h).queue
in_order cfg h legal = all_more cfg [] h legal (sym (ap (λ (made : Followed). made.queue) (followed_none cfg)))
