-- A call keeps what is kept within the limits.
use Rattle.std.proofs.Common.{◌≡◌, ℕ, zero, suc, ◌+◌, ◌^◌, ◌<◌, ◌≤◌, ◌==◌, ◌||◌, Bool, true, false, cond, List, [], ◌∷◌, ◌++◌, length, map, get_or, set, refl, sym, ap, subst, ◌∙◌, arith}
use Rattle.std.specs.List.{AllByRecursion, list_any, range_with_len}
use Rattle.std.proofs.Math.Bool.{or-false}
use Rattle.std.proofs.lemmas.List.Sums.{sum_by-cons}
use Rattle.tesla_base.proofs.Lists.{map_number_set, map_same}
use Rattle.tesla_fitting.specs.declared.config.Config.{Config}
use Rattle.tesla_follow.specs.Kept.{IsCalled, IsFollowKept, Shape, Waits, set_count, shape_of, shapes_of}
use Rattle.tesla_follow.specs.Stands.{EpochState}
use Rattle.tesla_follow.proofs.Asked.{alike_still, as_many, called_more}
use Rattle.tesla_follow.proofs.Moved.{flags_of}

-- after a call that each open epoch had once at most
pub kept_called : (cfg : Config) (old new spares : List EpochState) (room spare_room opened : ℕ) (queue waits : Waits) (flags marked : List Bool) (records early unqueued more dropped calls : ℕ)
    → IsFollowKept cfg old spares room spare_room opened queue flags records early unqueued dropped calls → calls < 2 ^ 63 → shapes_of new ≡ shapes_of old
    → AllByRecursion (IsCalled (calls + 1)) new → waits.capacity ≡ queue.capacity → length waits.waiting ≤ waits.capacity → length marked ≡ length flags → set_count marked ≤ set_count flags + 1 → more ≤ 1
    → IsFollowKept cfg new spares room spare_room opened waits marked records early (unqueued + more) dropped (calls + 1)
kept_called cfg old new spares room spare_room opened queue waits flags marked records early unqueued more dropped calls k below same called places waiting as_long marks one =
    let long : length new ≡ length old = as_many new old same in
    let some = k.some in
    let all = k.all in
    let numbered = k.numbered in
    let few_ends = k.few_ends in
    let few_records = k.few_records in
    let few_early = k.few_early in
    let few_unqueued = k.few_unqueued in
    record {
      some = omega (arith, long, some);
      all = omega (arith, long, all);
      numbered = (omega (arith, long, numbered.0), numbered.1);
      rooms = k.rooms;
      alike = alike_still cfg old new same k.alike;
      spare = k.spare;
      called = called;
      places = places ∙ k.places;
      few_places = k.few_places;
      waiting = waiting;
      ingests = k.ingests;
      flags_all = as_long ∙ k.flags_all;
      few_ends = omega (arith, few_ends, marks);
      few_records = omega (arith, few_records);
      few_early = omega (arith, few_early);
      few_unqueued = omega (arith, few_unqueued, one);
      few_dropped = k.few_dropped;
      few = omega (arith, below);
    }

-- ---- one epoch

pub shapes_set : (states : List EpochState) (place : ℕ) (before after : EpochState) → get_or states place before ≡ before → shape_of after ≡ shape_of before → shapes_of (set states place after) ≡ shapes_of states
shapes_set [] place before after was same = refl
shapes_set (s ∷ states) zero before after was same = ap (λ (x : Shape). x ∷ shapes_of states) (same ∙ ap shape_of (sym was))
shapes_set (s ∷ states) (suc place) before after was same = ap (λ (xs : List Shape). shape_of s ∷ xs) (shapes_set states place before after was same)

pub called_got : (most : ℕ) (states : List EpochState) (place : ℕ) (state : EpochState) → AllByRecursion (IsCalled most) states → place < length states → get_or states place state ≡ state → state.receiver.calls ≤ most
called_got most [] place state called below was = absurd (omega (arith, below))
called_got most (s ∷ states) zero state called below was = subst (IsCalled most) was called.0
called_got most (s ∷ states) (suc place) state called below was = called_got most states place state called.1 (omega (arith, below)) was

pub called_set : (most : ℕ) (states : List EpochState) (place : ℕ) (state : EpochState) → AllByRecursion (IsCalled most) states → state.receiver.calls ≤ most + 1 → AllByRecursion (IsCalled (most + 1)) (set states place state)
called_set most [] place state called one = tt
called_set most (s ∷ states) zero state called one = (one, called_more most states called.1)
called_set most (s ∷ states) (suc place) state called one = (omega (arith, called.0), called_set most states place state called.1 one)

-- ---- ends

any_more : (n m : ℕ) (xs : List ℕ) → list_any (λ (x : ℕ). x == n) (xs ++ m ∷ []) ≡ (list_any (λ (x : ℕ). x == n) xs || m == n)
any_more n m [] = or-false (m == n)
any_more n m (x ∷ xs) = ap (λ (b : Bool). x == n || b) (any_more n m xs) ∙ or_assoc (x == n) (list_any (λ (y : ℕ). y == n) xs) (m == n)
  where
    or_assoc : (a b c : Bool) → (a || (b || c)) ≡ ((a || b) || c)
    or_assoc true b c = refl
    or_assoc false b c = refl

-- one flag more is set at most
pub marked_more : (flags : List Bool) (place : ℕ) → set_count (set flags place true) ≤ set_count flags + 1
marked_more [] place = omega arith
marked_more (flag ∷ flags) zero =
    let now = sum_by-cons (λ (b : Bool). cond b 1 0) true flags in
    let old = sum_by-cons (λ (b : Bool). cond b 1 0) flag flags in
    omega (arith, now, old)
marked_more (flag ∷ flags) (suc place) =
    let now = sum_by-cons (λ (b : Bool). cond b 1 0) flag (set flags place true) in
    let old = sum_by-cons (λ (b : Bool). cond b 1 0) flag flags in
    let rest = marked_more flags place in
    omega (arith, now, old, rest)

-- the flag of an ingest that ends is set
pub flags_marked : (n ingest : ℕ) (ended : List ℕ) (flags : List Bool) → flags ≡ flags_of n ended → set flags ingest true ≡ flags_of n (ended ++ ingest ∷ [])
flags_marked n ingest ended flags is =
    let first : 0 + ingest ≡ ingest = omega arith in
    ap (λ (fs : List Bool). set fs ingest true) is
    ∙ sym (map_number_set (λ (k : ℕ). list_any (λ (other : ℕ). other == k) ended) 0 ingest n)
    ∙ ap (λ (i : ℕ). map (λ (k : ℕ). list_any (λ (other : ℕ). other == k) ended || i == k) (range_with_len 0 n)) first
    ∙ map_same (λ (k : ℕ). list_any (λ (other : ℕ). other == k) ended || ingest == k) (λ (k : ℕ). list_any (λ (other : ℕ). other == k) (ended ++ ingest ∷ [])) (range_with_len 0 n) (λ k. sym (any_more k ingest ended))
