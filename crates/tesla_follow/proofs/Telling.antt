-- Each packet that an epoch gives is told once, in order.
use Rattle.std.proofs.Common.{◌≡◌, ℕ, zero, suc, ◌+◌, ◌≤◌, ◌<◌, ◌==◌, Bool, true, false, cond, List, [], ◌∷◌, ◌++◌, append_assoc, length, map, take, drop, get_or, Option, Some, None, Result, Ok, Err, refl, sym, ap, subst, ◌∙◌, arith}
use Rattle.std.specs.Prelude.{filter}
use Rattle.std.specs.List.{flat_map, list_all, list_any, range_with_len}
use Rattle.std.proofs.lemmas.Bool.{cond-false, cond-true, eq-eqb, ne_eqb}
use Rattle.std.proofs.lemmas.List.{append-nil, length-map}
use Rattle.std.proofs.lemmas.List.Concat.{flat_map-append}
use Rattle.tesla_commit.specs.Parsing.{judged}
use Rattle.tesla_commit.specs.Parts.{Parts}
use Rattle.tesla_commit.specs.declared.refusal.SetupKind.{SetupKind}
use Rattle.tesla_fitting.specs.declared.config.Config.{Config}
use Rattle.tesla_receiver.specs.Entries.{Entry}
use Rattle.tesla_receiver.specs.History.{Event, Arrives, Ends, Takes}
use Rattle.tesla_receiver.specs.declared.history.Entry.TheVariants.{Arrived, Taken, Ended}
use Rattle.tesla_state.specs.declared.replies.Reply.{Reply}
use Rattle.tesla_state.specs.declared.replies.Reply.TheVariants as replies
use Rattle.tesla_rollover.specs.Epochs.{up_to_given}
use Rattle.tesla_rollover.specs.Handover.{handover_text}
use Rattle.tesla_rollover.specs.Replies.{is_over}
use Rattle.tesla_follow.specs.declared.answers.FollowNext.{FollowNext}
use Rattle.tesla_follow.specs.declared.answers.FollowNext.TheVariants.{Plain, Old, EpochsSpent, BadSetup, EqualCommitments, UsedStream, Opened}
use Rattle.tesla_follow.specs.declared.answers.FollowReply.TheVariants.{Empty, Over}
use Rattle.tesla_follow.specs.Followed.{Accepted, Followed, FollowedEpoch, TakesOne, acceptance_in, after_asking, after_next, after_opening, after_text, arrival_in, arrived_in, asked_all, asked_with, changed_at, ended_in, epoch_of, gives_asked, gives_none, head_at, next_of, no_epoch, oldest, open_epochs, place_for, replies_in, takes_in_turn}
use Rattle.tesla_follow.specs.History.{FollowEntry, IsFollowed, IsFollowedAfter, after_event, entry_of, epoch_at, event_of, followed}
use Rattle.tesla_follow.specs.Kept.{reply_of}
use Rattle.tesla_follow.specs.Laws.{Told, epoch_numbered, given_by, told_of}
use Rattle.tesla_follow.proofs.Histories.{followed_more, followed_none}
use Rattle.tesla_follow.proofs.Places.{place_open, some_epoch}

-- ---- the packets of an epoch

-- the packets that the epoch of a number gave
abbrev packets : List FollowedEpoch → ℕ → Config → List Told
packets es n cfg = flat_map given_by (get_or es n (no_epoch cfg)).history

one_more : (h : List Entry) (x : Entry) → flat_map given_by (h ++ x ∷ []) ≡ flat_map given_by h ++ given_by x
one_more h x = flat_map-append given_by h (x ∷ []) ∙ ap (λ (ys : List Told). flat_map given_by h ++ ys) (append-nil (given_by x))

-- the open epochs gave more behind the closed ones
behind : (cfg : Config) (o : ℕ) (es changed : List FollowedEpoch) (more : ℕ → List Told) → o ≤ length es → ((k : ℕ) → k < o → more k ≡ []) → ((k : ℕ) → packets changed k cfg ≡ packets (drop o es) k cfg ++ more (o + k))
    → (n : ℕ) → packets (take o es ++ changed) n cfg ≡ packets es n cfg ++ more n
behind cfg zero es changed more within none grown n = grown n ∙ ap (λ (k : ℕ). packets es n cfg ++ more k) (let same : 0 + n ≡ n = omega arith in same)
behind cfg (suc o) [] changed more within none grown n = absurd (omega (arith, within))
behind cfg (suc o) (e ∷ es) changed more within none grown zero = sym (ap (λ (ts : List Told). flat_map given_by e.history ++ ts) (none 0 (omega arith)) ∙ append-nil (flat_map given_by e.history))
behind cfg (suc o) (e ∷ es) changed more within none grown (suc n) =
    behind cfg o es changed (λ (k : ℕ). more (suc k)) (omega (arith, within)) (λ k below. none (suc k) (omega (arith, below)))
    (λ k. grown k ∙ ap (λ (j : ℕ). packets (drop o es) k cfg ++ more j) (let same : suc o + k ≡ suc (o + k) = omega arith in same)) n

-- an entry that gives none
quiet_more : (h : List Entry) (x : Entry) → given_by x ≡ [] → flat_map given_by (h ++ x ∷ []) ≡ flat_map given_by h ++ []
quiet_more h x none = one_more h x ∙ ap (λ (ts : List Told). flat_map given_by h ++ ts) none

arrived_quiet : (cfg : Config) (place : ℕ) (e : FollowedEpoch) (es : List FollowedEpoch) → place < length es → flat_map given_by e.history ≡ packets es place cfg → (k : ℕ) → packets (changed_at place e es) k cfg ≡ packets es k cfg ++ []
arrived_quiet cfg place e [] below same k = absurd (omega (arith, below))
arrived_quiet cfg zero e (x ∷ es) below same zero = same ∙ sym (append-nil (flat_map given_by x.history))
arrived_quiet cfg zero e (x ∷ es) below same (suc k) = sym (append-nil (packets es k cfg))
arrived_quiet cfg (suc place) e (x ∷ es) below same zero = sym (append-nil (flat_map given_by x.history))
arrived_quiet cfg (suc place) e (x ∷ es) below same (suc k) = arrived_quiet cfg place e es (omega (arith, below)) same k

ended_quiet : (cfg : Config) (ingest : ℕ) (es : List FollowedEpoch) (k : ℕ) → packets (map (ended_in ingest) es) k cfg ≡ packets es k cfg ++ []
ended_quiet cfg ingest [] k = refl
ended_quiet cfg ingest (e ∷ es) zero = quiet_more e.history (Ended ingest) refl
ended_quiet cfg ingest (e ∷ es) (suc k) = ended_quiet cfg ingest es k

-- ---- a take

-- the packet of an epoch among these answers, of which the first is that of this number
abbrev told_from : ℕ → List Reply → ℕ → List Told
told_from number [] epoch = []
told_from number (replies.Given head payload ∷ rs) epoch = cond (number == epoch) (record { head = head_at 0 head; payload = payload } ∷ []) []
told_from number (replies.Empty ∷ rs) epoch = told_from (suc number) rs epoch
told_from number (replies.Over ∷ rs) epoch = told_from (suc number) rs epoch

told_below : (number : ℕ) (rs : List Reply) (epoch : ℕ) → epoch < number → told_from number rs epoch ≡ []
told_below number [] epoch below = refl
told_below number (replies.Given head payload ∷ rs) epoch below = cond-false (number == epoch) (record { head = head_at 0 head; payload = payload } ∷ []) [] (ne_eqb number epoch (λ same. omega (arith, below, same)))
told_below number (replies.Empty ∷ rs) epoch below = told_below (suc number) rs epoch (omega (arith, below))
told_below number (replies.Over ∷ rs) epoch below = told_below (suc number) rs epoch (omega (arith, below))

module _ (cfg : Config) (releaser : ℕ) where
  asked_on : (number : ℕ) (reply : Reply) (e : FollowedEpoch) (es : List FollowedEpoch) (rs : List Reply) → given_by (Taken releaser reply) ≡ [] → ((k : ℕ) → packets (asked_all releaser rs es) k cfg ≡ packets es k cfg ++ told_from (suc number) rs (suc number + k))
      → (k : ℕ) → packets (asked_with releaser reply e ∷ asked_all releaser rs es) k cfg ≡ packets (e ∷ es) k cfg ++ told_from (suc number) rs (number + k)
  asked_on number reply e es rs none rest zero = quiet_more e.history (Taken releaser reply) none ∙ ap (λ (ts : List Told). flat_map given_by e.history ++ ts) (sym (told_below (suc number) rs (number + 0) (omega arith)))
  asked_on number reply e es rs none rest (suc k) = rest k ∙ ap (λ (n : ℕ). packets es k cfg ++ told_from (suc number) rs n) (let same : suc number + k ≡ number + suc k = omega arith in same)

  asked_gives : (number : ℕ) (qs : List Reply) (es : List FollowedEpoch) → length qs ≤ length es → (k : ℕ) → packets (asked_all releaser (up_to_given qs) es) k cfg ≡ packets es k cfg ++ told_from number (up_to_given qs) (number + k)
  asked_gives number [] es few k = sym (append-nil (packets es k cfg))
  asked_gives number (q ∷ qs) [] few k = absurd (omega (arith, few))
  asked_gives number (replies.Given head payload ∷ qs) (e ∷ es) few zero =
      let own : List Told = record { head = head_at 0 head; payload = payload } ∷ [] in
      one_more e.history (Taken releaser (replies.Given head payload)) ∙ ap (λ (ts : List Told). flat_map given_by e.history ++ ts) (sym (cond-true (number == number + 0) own [] (eq-eqb number (number + 0) (omega arith))))
  asked_gives number (replies.Given head payload ∷ qs) (e ∷ es) few (suc k) =
      let own : List Told = record { head = head_at 0 head; payload = payload } ∷ [] in
      sym (append-nil (packets es k cfg)) ∙ ap (λ (ts : List Told). packets es k cfg ++ ts) (sym (cond-false (number == number + suc k) own [] (ne_eqb number (number + suc k) (λ same. omega (arith, same)))))
  asked_gives number (replies.Empty ∷ qs) (e ∷ es) few k = asked_on number replies.Empty e es (up_to_given qs) refl (asked_gives (suc number) qs es (omega (arith, few))) k
  asked_gives number (replies.Over ∷ qs) (e ∷ es) few k = asked_on number replies.Over e es (up_to_given qs) refl (asked_gives (suc number) qs es (omega (arith, few))) k

-- the epochs that are asked gave what their answers tell
asking_gives : (cfg : Config) (it : Followed) (releaser n : ℕ) → packets (after_asking it releaser).epochs n cfg ≡ packets it.epochs n cfg ++ told_from (oldest it) (replies_in it) n
asking_gives cfg it releaser n =
    behind cfg (oldest it) it.epochs (asked_all releaser (replies_in it) (open_epochs it)) (told_from (oldest it) (replies_in it)) (omega arith)
    (λ k below. told_below (oldest it) (replies_in it) k below)
    (asked_gives cfg releaser (oldest it) (map reply_of (open_epochs it)) (open_epochs it) (let all = length-map (open_epochs it) reply_of in omega (arith, all))) n

-- the answer tells the packet of the epoch that gave one
none_told : (b : Bool) (releaser n : ℕ) → told_of n (Taken releaser (cond b Over Empty)) ≡ []
none_told true releaser n = refl
none_told false releaser n = refl

nothing_told : (it : Followed) (answers : List Reply) (queue : List Accepted) (releaser n : ℕ) → told_of n (Taken releaser (gives_none it answers queue).reply) ≡ []
nothing_told it answers [] releaser n = none_told (list_all is_over answers) releaser n
nothing_told it answers (accepted ∷ others) releaser n = refl

answer_told : (cfg : Config) (it : Followed) (answers : List Reply) (number : ℕ) (rs : List Reply) (releaser n : ℕ) → told_of n (Taken releaser (gives_asked cfg it answers number rs).reply) ≡ told_from number rs n
answer_told cfg it answers number [] releaser n = nothing_told it answers it.queue releaser n
answer_told cfg it answers number (replies.Given head payload ∷ rs) releaser n = refl
answer_told cfg it answers number (replies.Empty ∷ rs) releaser n = answer_told cfg it answers (suc number) rs releaser n
answer_told cfg it answers number (replies.Over ∷ rs) releaser n = answer_told cfg it answers (suc number) rs releaser n

-- ---- an opening

ends_quiet : (ingests : List ℕ) → flat_map given_by (map (λ (ingest : ℕ). Ended ingest) ingests) ≡ []
ends_quiet [] = refl
ends_quiet (ingest ∷ ingests) = ends_quiet ingests

begun_quiet : (cfg : Config) (it : Followed) (setup : Parts) → flat_map given_by (epoch_of cfg it setup).history ≡ []
begun_quiet cfg it setup = ends_quiet (filter (λ (ingest : ℕ). list_any (λ (other : ℕ). other == ingest) it.ended) (range_with_len 0 cfg.ingests))

pushed_quiet : (cfg : Config) (es : List FollowedEpoch) (e : FollowedEpoch) → flat_map given_by e.history ≡ [] → (n : ℕ) → packets (es ++ e ∷ []) n cfg ≡ packets es n cfg
pushed_quiet cfg [] e none zero = none
pushed_quiet cfg [] e none (suc n) = refl
pushed_quiet cfg (x ∷ es) e none zero = refl
pushed_quiet cfg (x ∷ es) e none (suc n) = pushed_quiet cfg es e none n

next_quiet : (cfg : Config) (it : Followed) (payload : List ℕ) (next : FollowNext) (n : ℕ) → packets (after_next cfg it payload next).epochs n cfg ≡ packets it.epochs n cfg
next_quiet cfg it payload Opened n = text_quiet (handover_text payload)
  where
    opening_quiet : (r : Result Parts (ℕ × SetupKind)) → packets (after_opening cfg it r).epochs n cfg ≡ packets it.epochs n cfg
    opening_quiet (Err refused) = refl
    opening_quiet (Ok setup) = pushed_quiet cfg it.epochs (epoch_of cfg it setup) (begun_quiet cfg it setup) n

    text_quiet : (o : Option (List ℕ)) → packets (after_text cfg it o).epochs n cfg ≡ packets it.epochs n cfg
    text_quiet None = refl
    text_quiet (Some text) = opening_quiet (judged text)
next_quiet cfg it payload Plain n = refl
next_quiet cfg it payload (Old newest) n = refl
next_quiet cfg it payload EpochsSpent n = refl
next_quiet cfg it payload (BadSetup line kind) n = refl
next_quiet cfg it payload (EqualCommitments chain) n = refl
next_quiet cfg it payload (UsedStream stream) n = refl

none_quiet : (cfg : Config) (it : Followed) (answers : List Reply) (queue : List Accepted) (n : ℕ) → packets (gives_none it answers queue).after.epochs n cfg ≡ packets it.epochs n cfg
none_quiet cfg it answers [] n = refl
none_quiet cfg it answers (accepted ∷ others) n = refl

asked_quiet : (cfg : Config) (it : Followed) (answers : List Reply) (number : ℕ) (rs : List Reply) (n : ℕ) → packets (gives_asked cfg it answers number rs).after.epochs n cfg ≡ packets it.epochs n cfg
asked_quiet cfg it answers number [] n = none_quiet cfg it answers it.queue n
asked_quiet cfg it answers number (replies.Given head payload ∷ rs) n = next_quiet cfg (record it { turn = true; records = suc it.records }) payload (next_of it number payload) n
asked_quiet cfg it answers number (replies.Empty ∷ rs) n = asked_quiet cfg it answers (suc number) rs n
asked_quiet cfg it answers number (replies.Over ∷ rs) n = asked_quiet cfg it answers (suc number) rs n

-- ---- events

-- what a take makes of the packets of an epoch, and tells
abbrev TellsAs : Config → Followed → ℕ → ℕ → TakesOne → Type 0
TellsAs cfg it releaser n takes = packets takes.after.epochs n cfg ≡ packets it.epochs n cfg ++ told_of n (Taken releaser takes.reply)

released_tells : (cfg : Config) (it : Followed) (releaser n : ℕ) → TellsAs cfg it releaser n (gives_asked cfg (after_asking it releaser) (replies_in it) (oldest it) (replies_in it))
released_tells cfg it releaser n =
    asked_quiet cfg (after_asking it releaser) (replies_in it) (oldest it) (replies_in it) n ∙ asking_gives cfg it releaser n
    ∙ ap (λ (ts : List Told). packets it.epochs n cfg ++ ts) (sym (answer_told cfg (after_asking it releaser) (replies_in it) (oldest it) (replies_in it) releaser n))

taken_tells : (cfg : Config) (it : Followed) (releaser n : ℕ) (turn : Bool) (queue : List Accepted) → TellsAs cfg it releaser n (takes_in_turn cfg it releaser turn queue)
taken_tells cfg it releaser n turn [] = released_tells cfg it releaser n
taken_tells cfg it releaser n true (accepted ∷ others) = sym (append-nil (packets it.epochs n cfg))
taken_tells cfg it releaser n false (accepted ∷ others) = released_tells cfg it releaser n

event_tells : (cfg : Config) (it : Followed) (event : Event) (n : ℕ) → 1 ≤ length it.epochs → packets (after_event cfg it event).epochs n cfg ≡ packets it.epochs n cfg ++ told_of n (entry_of cfg it event)
event_tells cfg it (Arrives ingest reading bytes) n some =
    let place = place_for it bytes in
    let epoch = epoch_at cfg it place in
    let arrival = arrival_in epoch ingest reading bytes in
    let arrived : FollowedEpoch = arrived_in epoch (acceptance_in cfg it epoch arrival) arrival in
    behind cfg (oldest it) it.epochs (changed_at place arrived (open_epochs it)) (λ (k : ℕ). []) (omega arith) (λ k below. refl)
    (arrived_quiet cfg place arrived (open_epochs it) (place_open it bytes some) (quiet_more epoch.history (Arrived arrival) refl ∙ append-nil (flat_map given_by epoch.history))) n
event_tells cfg it (Takes releaser) n some = taken_tells cfg it releaser n it.turn it.queue
event_tells cfg it (Ends ingest) n some = behind cfg (oldest it) it.epochs (map (ended_in ingest) (open_epochs it)) (λ (k : ℕ). []) (omega arith) (λ k below. refl) (ended_quiet cfg ingest (open_epochs it)) n

-- ---- a whole history

-- what is told of an epoch is what it gave
abbrev IsTold : Config → ℕ → List FollowEntry → Type 0
IsTold cfg n h = flat_map (told_of n) h ≡ packets (followed cfg h).epochs n cfg

told_more : (cfg : Config) (n : ℕ) (h : List FollowEntry) (x : FollowEntry) → x ≡ entry_of cfg (followed cfg h) (event_of x) → IsTold cfg n h → IsTold cfg n (h ++ x ∷ [])
told_more cfg n h x is so_far =
    let it = followed cfg h in
    flat_map-append (told_of n) h (x ∷ []) ∙ ap (λ (ts : List Told). flat_map (told_of n) h ++ ts) (append-nil (told_of n x))
    ∙ ap (λ (ts : List Told). ts ++ told_of n x) so_far ∙ ap (λ (e : FollowEntry). packets it.epochs n cfg ++ told_of n e) is
    ∙ sym (event_tells cfg it (event_of x) n (some_epoch cfg h)) ∙ ap (λ (made : Followed). packets made.epochs n cfg) (sym (followed_more cfg h x))

all_more : (cfg : Config) (n : ℕ) (h more : List FollowEntry) → IsFollowedAfter cfg h more → IsTold cfg n h → IsTold cfg n (h ++ more)
all_more cfg n h [] legal so_far = subst (IsTold cfg n) (sym (append-nil h)) so_far
all_more cfg n h (x ∷ more) legal so_far = subst (IsTold cfg n) (append_assoc h (x ∷ []) more) (all_more cfg n (h ++ x ∷ []) more legal.1 (told_more cfg n h x legal.0 so_far))

-- nothing is told of the empty history
nothing_given : (cfg : Config) (n : ℕ) → packets (no_epoch cfg ∷ []) n cfg ≡ []
nothing_given cfg zero = refl
nothing_given cfg (suc n) = refl

pub told_once : (cfg : Config) (h : List FollowEntry) (epoch : ℕ) → IsFollowed cfg h → flat_map (told_of epoch) h ≡ flat_map given_by (epoch_numbered cfg h epoch).history
told_once cfg h epoch legal = all_more cfg epoch [] h legal (sym (nothing_given cfg epoch) ∙ ap (λ (made : Followed). packets made.epochs epoch cfg) (sym (followed_none cfg)))
