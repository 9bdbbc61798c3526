-- In an epoch no ingest has ended that hasn't ended in the whole history.
use Rattle.std.proofs.Common.{◌≡◌, ◌∙◌, ◌⊎◌, ◌||◌, ◌==◌, inl, inr, ℕ, zero, suc, ◌≤◌, Bool, true, false, cond, Option, Some, None, Result, Ok, Err, List, [], ◌∷◌, ◌++◌, length, map, take, drop, get_or, refl, sym, ap, subst, ⊎_elim, arith, length-append, length-drop}
use Rattle.std.specs.List.{AllByRecursion, filter, fold, list_any, range_with_len}
use Rattle.std.proofs.lemmas.Bool.{eq-eqb, eqb-true}
use Rattle.std.proofs.lemmas.List.{length-map}
use Rattle.std.proofs.lemmas.List.Folds.{list_any-append}
use Rattle.tesla_commit.specs.Parsing.{judged}
use Rattle.tesla_commit.specs.Parts.{Parts}
use Rattle.tesla_commit.specs.declared.refusal.SetupKind.{SetupKind}
use Rattle.tesla_fitting.specs.declared.config.Config.{Config}
use Rattle.tesla_receiver.specs.Entries as receiving
use Rattle.tesla_receiver.specs.History.{Arrives, Ends, Takes, ends, has_end}
use Rattle.tesla_receiver.specs.declared.history.Entry.TheVariants.{Arrived, Taken, Ended}
use Rattle.tesla_rollover.specs.Handover.{handover_text}
use Rattle.tesla_state.specs.declared.replies.Reply.{Reply}
use Rattle.tesla_state.specs.declared.replies.Reply.TheVariants as replies
use Rattle.tesla_follow.specs.declared.answers.FollowNext.{FollowNext}
use Rattle.tesla_follow.specs.declared.answers.FollowNext.TheVariants.{Plain, Old, EpochsSpent, BadSetup, EqualCommitments, UsedStream, Opened}
use Rattle.tesla_follow.specs.Followed.{Accepted, Followed, FollowedEpoch, acceptance_in, after_asking, after_next, after_opening, after_text, arrival_in, arrived_in, asked_all, changed_at, ended_in, epoch_of, gives_asked, gives_none, no_epoch, nothing_followed, oldest, open_epochs, place_for, replies_in, takes_in_turn}
use Rattle.tesla_follow.specs.History.{FollowEntry, after_event, epoch_at, event_of, followed}

-- ---- lists

module _ {A : Type 0} (P : A → Type 0) where
  all_take : (n : ℕ) (xs : List A) → AllByRecursion P xs → AllByRecursion P (take n xs)
  all_take zero xs all = tt
  all_take (suc n) [] all = tt
  all_take (suc n) (x ∷ xs) all = (all.0, all_take n xs all.1)

  pub all_drop : (n : ℕ) (xs : List A) → AllByRecursion P xs → AllByRecursion P (drop n xs)
  all_drop zero xs all = all
  all_drop (suc n) [] all = tt
  all_drop (suc n) (x ∷ xs) all = all_drop n xs all.1

  all_join : (xs ys : List A) → AllByRecursion P xs → AllByRecursion P ys → AllByRecursion P (xs ++ ys)
  all_join [] ys all more = more
  all_join (x ∷ xs) ys all more = (all.0, all_join xs ys all.1 more)

  all_got : (xs : List A) (n : ℕ) (d : A) → AllByRecursion P xs → P d → P (get_or xs n d)
  all_got [] n d all one = one
  all_got (x ∷ xs) zero d all one = all.0
  all_got (x ∷ xs) (suc n) d all one = all_got xs n d all.1 one

either : (a b : Bool) → (a || b) ≡ true → (a ≡ true) ⊎ (b ≡ true)
either true b is = inl refl
either false b is = inr is

-- ---- one epoch

-- an end behind a history is in it, or is of the entry behind it
end_more : (history : List receiving.Entry) (entry : receiving.Entry) (k : ℕ) → has_end (history ++ entry ∷ []) k ≡ true → (has_end history k ≡ true) ⊎ (ends k entry ≡ true)
end_more history entry k has =
    ⊎_elim (λ before. inl before) (λ last. ⊎_elim (λ own. inr own) (λ none. absurd cc) (either (ends k entry) false last))
    (either (has_end history k) (has_end (entry ∷ []) k) (sym (list_any-append (ends k) history (entry ∷ [])) ∙ has))

-- the ends of these ingests
abbrev ends_of : List ℕ → List receiving.Entry
ends_of ingests = map (λ (ingest : ℕ). Ended ingest) ingests

passed_first : (p : ℕ → Bool) (x : ℕ) (xs : List ℕ) (k : ℕ) (test : Bool) → p x ≡ test → (has_end (ends_of xs) k ≡ true → p k ≡ true) → has_end (ends_of (cond test (x ∷ xs) xs)) k ≡ true → p k ≡ true
passed_first p x xs k true is rest some = ⊎_elim (λ own. ap p (sym (eqb-true x k own)) ∙ is) rest (either (x == k) (has_end (ends_of xs) k) some)
passed_first p x xs k false is rest some = rest some

-- ends of ingests that pass a test are of such ingests
ends_passed : (p : ℕ → Bool) (xs : List ℕ) (k : ℕ) → has_end (ends_of (filter p xs)) k ≡ true → p k ≡ true
ends_passed p [] k has = absurd cc
ends_passed p (x ∷ xs) k has = passed_first p x (filter p xs) k (p x) refl (ends_passed p xs k) has

module _ (cfg : Config) (P : ℕ → Type 0) where
  -- an epoch has the ingests of the configuration, and each of them that has ended in it is one of these
  pub record IsWithin (e : FollowedEpoch) : Type 0 where
    pub ingests : e.config.ingests ≡ cfg.ingests
    pub ended : (k : ℕ) → has_end e.history k ≡ true → P k

  abbrev pub AreWithin : List FollowedEpoch → Type 0
  AreWithin es = AllByRecursion IsWithin es

  within_more : (e : FollowedEpoch) (entry : receiving.Entry) (teaching : List receiving.Entry) → ((k : ℕ) → ends k entry ≡ true → P k) → IsWithin e → IsWithin (record { config = e.config; history = e.history ++ entry ∷ []; teaching = teaching })
  within_more e entry teaching own it = record {
    ingests = it.ingests;
    ended = λ k has. ⊎_elim (it.ended k) (own k) (end_more e.history entry k has);
  }

  within_none : IsWithin (no_epoch cfg)
  within_none = record { ingests = refl; ended = λ k has. absurd cc }

  -- there is an epoch, and all that has ended is one of these
  pub record AllWithin (it : Followed) : Type 0 where
    pub some : 1 ≤ length it.epochs
    pub epochs : AreWithin it.epochs
    pub ended : (k : ℕ) → list_any (λ (other : ℕ). other == k) it.ended ≡ true → P k

  within_changed : (it : Followed) (changed : List FollowedEpoch) → AreWithin it.epochs → AreWithin changed → AreWithin (take (oldest it) it.epochs ++ changed)
  within_changed it changed all more = all_join IsWithin (take (oldest it) it.epochs) changed (all_take IsWithin (oldest it) it.epochs all) more

  within_asked : (releaser : ℕ) (rs : List Reply) (es : List FollowedEpoch) → AreWithin es → AreWithin (asked_all releaser rs es)
  within_asked releaser [] es all = all
  within_asked releaser (r ∷ rs) [] all = tt
  within_asked releaser (r ∷ rs) (e ∷ es) all = (within_more e (Taken releaser r) (e.teaching ++ Taken releaser r ∷ []) (λ k own. absurd cc) all.0, within_asked releaser rs es all.1)

  within_ended : (ingest : ℕ) (es : List FollowedEpoch) → P ingest → AreWithin es → AreWithin (map (ended_in ingest) es)
  within_ended ingest [] own all = tt
  within_ended ingest (e ∷ es) own all =
      (within_more e (Ended ingest) (e.teaching ++ Ended ingest ∷ []) (λ k same. subst P (eqb-true ingest k same) own) all.0, within_ended ingest es own all.1)

  -- ---- events

  within_opened : (it : Followed) (r : Result Parts (ℕ × SetupKind)) → AllWithin it → AllWithin (after_opening cfg it r)
  within_opened it (Err refused) all = all
  within_opened it (Ok setup) all = record {
    some = let more = length-append it.epochs (epoch_of cfg it setup ∷ []) in omega (arith, more);
    epochs = all_join IsWithin it.epochs (epoch_of cfg it setup ∷ []) all.epochs
        (record { ingests = refl; ended = λ k has. all.ended k (ends_passed (λ (ingest : ℕ). list_any (λ (other : ℕ). other == ingest) it.ended) (range_with_len 0 cfg.ingests) k has) }, tt);
    ended = all.ended;
  }

  within_text : (it : Followed) (text : Option (List ℕ)) → AllWithin it → AllWithin (after_text cfg it text)
  within_text it None all = all
  within_text it (Some text) all = within_opened it (judged text) all

  within_next : (it : Followed) (payload : List ℕ) (next : FollowNext) → AllWithin it → AllWithin (after_next cfg it payload next)
  within_next it payload Opened all = within_text it (handover_text payload) all
  within_next it payload Plain all = all
  within_next it payload (Old newest) all = all
  within_next it payload EpochsSpent all = all
  within_next it payload (BadSetup line kind) all = all
  within_next it payload (EqualCommitments chain) all = all
  within_next it payload (UsedStream stream) all = all

  -- what was made is the same but for its numbers
  renumbered : (it other : Followed) → other.epochs ≡ it.epochs → other.ended ≡ it.ended → AllWithin it → AllWithin other
  renumbered it other epochs ended all = record {
    some = subst (λ (es : List FollowedEpoch). 1 ≤ length es) (sym epochs) all.some;
    epochs = subst AreWithin (sym epochs) all.epochs;
    ended = subst (λ (ingests : List ℕ). (k : ℕ) → list_any (λ (one : ℕ). one == k) ingests ≡ true → P k) (sym ended) all.ended;
  }

  within_given : (it : Followed) (answers : List Reply) (queue : List Accepted) → AllWithin it → AllWithin (gives_none it answers queue).after
  within_given it answers [] all = all
  within_given it answers (accepted ∷ others) all = renumbered it _ refl refl all

  within_gives : (it : Followed) (answers : List Reply) (epoch : ℕ) (rs : List Reply) → AllWithin it → AllWithin (gives_asked cfg it answers epoch rs).after
  within_gives it answers epoch [] all = within_given it answers it.queue all
  within_gives it answers epoch (replies.Given head payload ∷ others) all =
      let given : Followed = record it { turn = true; records = suc it.records } in within_next given payload _ (renumbered it given refl refl all)
  within_gives it answers epoch (replies.Empty ∷ others) all = within_gives it answers (suc epoch) others all
  within_gives it answers epoch (replies.Over ∷ others) all = within_gives it answers (suc epoch) others all

  within_changing : (it other : Followed) (changed : List FollowedEpoch) → 1 ≤ length changed → other.epochs ≡ take (oldest it) it.epochs ++ changed → AllWithin it → AreWithin changed
      → ((k : ℕ) → list_any (λ (one : ℕ). one == k) other.ended ≡ true → P k) → AllWithin other
  within_changing it other changed some epochs all more ended = record {
    some = let size = length-append (take (oldest it) it.epochs) changed in let same = ap length epochs in omega (arith, some, size, same);
    epochs = subst AreWithin (sym epochs) (within_changed it changed all.epochs more);
    ended = ended;
  }

  pub open_some : (it : Followed) → AllWithin it → 1 ≤ length (open_epochs it)
  open_some it all = let size = length-drop (oldest it) it.epochs in let some = all.some in omega (arith, size, some)

  asked_length : (releaser : ℕ) (rs : List Reply) (es : List FollowedEpoch) → length (asked_all releaser rs es) ≡ length es
  asked_length releaser [] es = refl
  asked_length releaser (r ∷ rs) [] = refl
  asked_length releaser (r ∷ rs) (e ∷ es) = ap suc (asked_length releaser rs es)

  within_asking : (it : Followed) (releaser : ℕ) → AllWithin it → AllWithin (after_asking it releaser)
  within_asking it releaser all =
      within_changing it (after_asking it releaser) (asked_all releaser (replies_in it) (open_epochs it)) (subst (λ (n : ℕ). 1 ≤ n) (sym (asked_length releaser (replies_in it) (open_epochs it))) (open_some it all)) refl all
      (within_asked releaser (replies_in it) (open_epochs it) (all_drop IsWithin (oldest it) it.epochs all.epochs)) all.ended

  within_released : (it : Followed) (releaser : ℕ) → AllWithin it → AllWithin (gives_asked cfg (after_asking it releaser) (replies_in it) (oldest it) (replies_in it)).after
  within_released it releaser all = within_gives (after_asking it releaser) (replies_in it) (oldest it) (replies_in it) (within_asking it releaser all)

  within_taken : (it : Followed) (releaser : ℕ) (turn : Bool) (queue : List Accepted) → AllWithin it → AllWithin (takes_in_turn cfg it releaser turn queue).after
  within_taken it releaser turn [] all = within_released it releaser all
  within_taken it releaser true (accepted ∷ others) all = renumbered it _ refl refl all
  within_taken it releaser false (accepted ∷ others) all = within_released it releaser all

  within_arrived : (it : Followed) (ingest reading : ℕ) (bytes : List ℕ) → AllWithin it → AllWithin (after_event cfg it (Arrives ingest reading bytes))
  within_arrived it ingest reading bytes all =
      let place = place_for it bytes in
      let epoch = epoch_at cfg it place in
      let there = all_drop IsWithin (oldest it) it.epochs all.epochs in
      let arrival = arrival_in epoch ingest reading bytes in
      let acceptance = acceptance_in cfg it epoch arrival in
      let arrived : FollowedEpoch = arrived_in epoch acceptance arrival in
      let own : IsWithin epoch = all_got IsWithin (open_epochs it) place (no_epoch cfg) there within_none in
      within_changing it (after_event cfg it (Arrives ingest reading bytes)) (changed_at place arrived (open_epochs it))
      (let size = length-append (take place (open_epochs it)) (arrived ∷ drop (suc place) (open_epochs it)) in omega (arith, size)) refl all
      (all_join IsWithin (take place (open_epochs it)) (arrived ∷ drop (suc place) (open_epochs it)) (all_take IsWithin place (open_epochs it) there)
      (within_more epoch (Arrived arrival) _ (λ k mine. absurd cc) own, all_drop IsWithin (suc place) (open_epochs it) there))
      all.ended

  within_end : (it : Followed) (ingest : ℕ) → P ingest → AllWithin it → AllWithin (after_event cfg it (Ends ingest))
  within_end it ingest own all =
      within_changing it (after_event cfg it (Ends ingest)) (map (ended_in ingest) (open_epochs it))
      (subst (λ (n : ℕ). 1 ≤ n) (sym (length-map (open_epochs it) (ended_in ingest))) (open_some it all)) refl all
      (within_ended ingest (open_epochs it) own (all_drop IsWithin (oldest it) it.epochs all.epochs))
      (λ k has. ⊎_elim (all.ended k) (λ last. ⊎_elim (λ mine. subst P (eqb-true ingest k mine) own) (λ none. absurd cc) (either (ingest == k) false last))
      (either (list_any (λ (other : ℕ). other == k) it.ended) (list_any (λ (other : ℕ). other == k) (ingest ∷ [])) (sym (list_any-append (λ (other : ℕ). other == k) it.ended (ingest ∷ [])) ∙ has)))

  -- ---- histories

  -- each ingest that these entries end is one of these
  abbrev pub EndsAre : List FollowEntry → Type 0
  EndsAre entries = (k : ℕ) → has_end entries k ≡ true → P k

  or_right : (a b : Bool) → b ≡ true → (a || b) ≡ true
  or_right true b is = refl
  or_right false b is = is

  within_entries : (entries : List FollowEntry) (it : Followed) → EndsAre entries → AllWithin it → AllWithin (fold (λ made entry. after_event cfg made (event_of entry)) it entries)
  within_entries [] it own all = all
  within_entries (Arrived arrival ∷ entries) it own all = within_entries entries (after_event cfg it (Arrives arrival.ingest arrival.reading arrival.bytes)) own (within_arrived it arrival.ingest arrival.reading arrival.bytes all)
  within_entries (Taken releaser reply ∷ entries) it own all = within_entries entries (after_event cfg it (Takes releaser)) own (within_taken it releaser it.turn it.queue all)
  within_entries (Ended ingest ∷ entries) it own all =
      within_entries entries (after_event cfg it (Ends ingest)) (λ k has. own k (or_right (ingest == k) (has_end entries k) has))
      (within_end it ingest (own ingest (or_first (ingest == ingest) (has_end entries ingest) (eq-eqb ingest ingest refl))) all)
    where
      or_first : (a b : Bool) → a ≡ true → (a || b) ≡ true
      or_first true b is = refl
      or_first false b is = absurd cc

  pub history_within : (history : List FollowEntry) → EndsAre history → AllWithin (followed cfg history)
  unfolding followed
  history_within history own = within_entries history (nothing_followed cfg) own (record { some = omega arith; epochs = (within_none, tt); ended = λ k has. absurd cc })
