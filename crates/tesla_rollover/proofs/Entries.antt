-- The histories of the epochs grow with each entry.
use Rattle.std.proofs.Common.{◌≡◌, ◌≢◌, ℕ, suc, ◌+◌, ◌<◌, Bool, true, false, cond, ◌&&◌, ◌||◌, nat_lt, ◌==◌, List, [], ◌∷◌, ◌++◌, length, map, set, Option, Some, None, refl, sym, ap, ◌∙◌, arith}
use Rattle.std.specs.Prelude.{slice_get}
use Rattle.std.specs.List.{list_any, range_with_len}
use Rattle.std.proofs.Math.Bool.{or-false}
use Rattle.std.proofs.lemmas.Bool.Decides.{nat_tests}
use Rattle.std.proofs.lemmas.List.{append-nil}
use Rattle.std.proofs.lemmas.List.Concat.{flat_map-append}
use Rattle.std.proofs.lemmas.List.Folds.{list_any-append}
use Rattle.tesla_base.proofs.Filtered.{filter_same}
use Rattle.tesla_commit.specs.Parts.{Parts}
use Rattle.tesla_receiver.specs.History.{has_end, ends}
use Rattle.tesla_receiver.specs.Entries.{Arrival, Entry}
use Rattle.tesla_receiver.specs.declared.history.Entry.TheVariants.{Arrived, Ended}
use Rattle.tesla_receiver.proofs.EachAfter.{each_after_more}
use Rattle.tesla_state.specs.Releases.{each_after}
use Rattle.tesla_fitting.specs.declared.verdict.Verdict.{Verdict}
use Rattle.tesla_state.specs.declared.replies.Reply.{Reply}
use Rattle.tesla_rollover.specs.History.{RollEntry, RollArrived, RollTaken, RollEnded, opens, setup_opened, setups_opened, epoch_count, roll_ends, has_roll_end, ends_before, taken_on, entries_on, history_at}
use Rattle.tesla_rollover.specs.Kept.{ends_in}
use Rattle.tesla_rollover.specs.Stands.{histories_in}
use Rattle.tesla_rollover.proofs.Numbers.{map_below, map_map, map_set_at}

-- an epoch's history with one entry more
pub at_more : (ingests : ℕ) (h : List RollEntry) (e : RollEntry) (epoch : ℕ) → history_at ingests (h ++ e ∷ []) epoch ≡ history_at ingests h epoch ++ entries_on ingests epoch h e
unfolding history_at
at_more ingests h e epoch = each_after_more (entries_on ingests epoch) h e

pub setups_more : (h : List RollEntry) (e : RollEntry) → setups_opened (h ++ e ∷ []) ≡ setups_opened h ++ setup_opened e
setups_more h e = flat_map-append setup_opened h (e ∷ []) ∙ ap (λ ps. setups_opened h ++ ps) (append-nil (setup_opened e))

pub setups_same : (h : List RollEntry) (e : RollEntry) → setup_opened e ≡ [] → setups_opened (h ++ e ∷ []) ≡ setups_opened h
setups_same h e none = setups_more h e ∙ ap (λ ps. setups_opened h ++ ps) none ∙ append-nil (setups_opened h)

pub count_same : (h : List RollEntry) (e : RollEntry) → setup_opened e ≡ [] → epoch_count (h ++ e ∷ []) ≡ epoch_count h
count_same h e none = ap (λ (ps : List Parts). suc (length ps)) (setups_same h e none)

-- ---- an end

pub histories_ended : (ingests : ℕ) (h : List RollEntry) (ingest : ℕ) → histories_in ingests (h ++ RollEnded ingest ∷ []) ≡ map (λ history. history ++ Ended ingest ∷ []) (histories_in ingests h)
histories_ended ingests h ingest =
    ap (λ n. map (history_at ingests (h ++ RollEnded ingest ∷ [])) (range_with_len 0 n)) (count_same h (RollEnded ingest) refl)
    ∙ map_below (history_at ingests (h ++ RollEnded ingest ∷ [])) (λ k. history_at ingests h k ++ Ended ingest ∷ []) 0 (epoch_count h)
    (λ k below. at_more ingests h (RollEnded ingest) k ∙ ap (λ b. history_at ingests h k ++ cond b (Ended ingest ∷ []) []) (within k (epoch_count h) below))
    ∙ sym (map_map (λ (history : List Entry). history ++ Ended ingest ∷ []) (history_at ingests h) (range_with_len 0 (epoch_count h)))
  where
    within : (k n : ℕ) → k < 0 + n → nat_lt k n ≡ true
    within k n below = grind (arith, nat_tests, below)

-- ---- an arrival

pub histories_arrived : (ingests : ℕ) (h : List RollEntry) (epoch : ℕ) (arrival : Arrival) → histories_in ingests (h ++ RollArrived epoch arrival ∷ []) ≡ set (histories_in ingests h) epoch (history_at ingests h epoch ++ Arrived arrival ∷ [])
histories_arrived ingests h epoch arrival =
    ap (λ n. map (history_at ingests (h ++ RollArrived epoch arrival ∷ [])) (range_with_len 0 n)) (count_same h (RollArrived epoch arrival) refl)
    ∙ map_set_at (history_at ingests h) (history_at ingests (h ++ RollArrived epoch arrival ∷ [])) (epoch_count h) epoch
    (λ k differs. at_more ingests h (RollArrived epoch arrival) k ∙ ap (λ b. history_at ingests h k ++ cond b (Arrived arrival ∷ []) []) (other k epoch differs) ∙ append-nil (history_at ingests h k))
    ∙ ap (λ x. set (histories_in ingests h) epoch x) (at_more ingests h (RollArrived epoch arrival) epoch ∙ ap (λ b. history_at ingests h epoch ++ cond b (Arrived arrival ∷ []) []) (own epoch))
  where
    other : (k epoch : ℕ) → k ≢ epoch → (epoch == k) ≡ false
    other k epoch differs = grind (arith, nat_tests, differs)

    own : (epoch : ℕ) → (epoch == epoch) ≡ true
    own epoch = grind (arith, nat_tests)

-- ---- the ends

-- the ends in the first epoch's history are all that there are
ends_first : (ingests ingest : ℕ) (before h : List RollEntry) → has_end (each_after (entries_on ingests 0) before h) ingest ≡ list_any (roll_ends ingest) h
ends_first ingests ingest before [] = refl
ends_first ingests ingest before (e ∷ h) =
    list_any-append (ends ingest) (entries_on ingests 0 before e) (each_after (entries_on ingests 0) (before ++ e ∷ []) h)
    ∙ ap (λ b. b || has_end (each_after (entries_on ingests 0) (before ++ e ∷ []) h) ingest) (end_in e)
    ∙ ap (λ b. roll_ends ingest e || b) (ends_first ingests ingest (before ++ e ∷ []) h)
  where
    taken_none : (releaser : ℕ) (reply : Option Reply) → has_end (taken_on releaser reply ++ []) ingest ≡ false
    taken_none releaser None = refl
    taken_none releaser (Some reply) = refl

    never : (b : Bool) (n : ℕ) → (b && (0 == suc n)) ≡ false
    never true n = grind (arith, nat_tests)
    never false n = refl

    arrived_none : (b : Bool) (arrival : Arrival) → has_end {R = Reply} (cond b (Arrived arrival ∷ []) []) ingest ≡ false
    arrived_none true arrival = refl
    arrived_none false arrival = refl

    end_in : (e : RollEntry) → has_end (entries_on ingests 0 before e) ingest ≡ roll_ends ingest e
    end_in (RollArrived epoch arrival) = arrived_none (epoch == 0) arrival
    end_in (RollTaken releaser answers next) =
        ap (λ b. has_end (taken_on releaser (slice_get answers 0) ++ cond b (ends_before ingests before) []) ingest) (never (opens next) (length (setups_opened before)))
        ∙ taken_none releaser (slice_get answers 0)
    end_in (RollEnded other) =
        let within : nat_lt 0 (epoch_count before) ≡ true = grind (arith, nat_tests) in
        ap (λ b. has_end {V = Verdict} {R = Reply} (cond b (Ended other ∷ []) []) ingest) within ∙ or-false (other == ingest)

pub has_end_first : (ingests : ℕ) (h : List RollEntry) (ingest : ℕ) → has_end (history_at ingests h 0) ingest ≡ has_roll_end h ingest
unfolding history_at
has_end_first ingests h ingest = ends_first ingests ingest [] h

-- the ends that a further epoch begins with are those of the first epoch's history
pub ends_first_are : (ingests : ℕ) (h : List RollEntry) → ends_in ingests (history_at ingests h 0) ≡ ends_before ingests h
ends_first_are ingests h =
    ap (λ (ks : List ℕ). map (λ (ingest : ℕ). Ended ingest) ks) (filter_same (has_end (history_at ingests h 0)) (has_roll_end h) (range_with_len 0 ingests) (λ k. has_end_first ingests h k))
