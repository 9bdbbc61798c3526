-- Where no pair of streams is told, they are in order, and the other way round.
use Rattle.std.proofs.Common.{◌≡◌, ◌∙◌, ℕ, ◌+◌, Bool, true, false, List, [], ◌∷◌, Option, Some, None, refl, ap}
use Rattle.std.specs.Prelude.{◌==◌, if◌then◌else◌}
use Rattle.std.specs.List.{AllByRecursion}
use Rattle.tesla_commit.specs.Parts.{Parts}
use Rattle.tesla_feeds.specs.Order.{AreInOrder, begins_early, disorder_at, disorder_from, same_number}
use Rattle.tesla_feeds.specs.declared.order.Disorder.{Disorder}

abbrev Differ : ℕ → List Parts → Type 0
Differ number setups = AllByRecursion (λ other. (other.stream.0 == number) ≡ false) setups

differ_where : (number place : ℕ) (setup : Parts) (setups : List Parts) (same : Bool) (others : Option ℕ) → (setup.stream.0 == number) ≡ same → (others ≡ None → Differ number setups)
    → (if same then Some place else others) ≡ None → Differ number (setup ∷ setups)
differ_where number place setup setups true others is behind none = absurd cc
differ_where number place setup setups false others is behind none = (is, behind none)

differ_none : (number place : ℕ) (setups : List Parts) → same_number number place setups ≡ None → Differ number setups
differ_none number place [] none = tt
differ_none number place (setup ∷ setups) none =
    differ_where number place setup setups (setup.stream.0 == number) (same_number number (place + 1) setups) refl (differ_none number (place + 1) setups) none

none_differ : (number place : ℕ) (setups : List Parts) → Differ number setups → same_number number place setups ≡ None
none_differ number place [] differ = refl
none_differ number place (setup ∷ setups) differ =
    let others : Option ℕ = same_number number (place + 1) setups in
    ap (λ (same : Bool). if same then Some place else others) differ.0 ∙ none_differ number (place + 1) setups differ.1

record Fine (early : Bool) (same : Option ℕ) (behind : Option Disorder) : Type 0 where
  early_not : early ≡ false
  same_not : same ≡ None
  behind_not : behind ≡ None

fine : (place : ℕ) (early : Bool) (same : Option ℕ) (behind : Option Disorder) → disorder_at place early same behind ≡ None → Fine early same behind
fine place true same behind none = absurd cc
fine place false (Some other) behind none = absurd cc
fine place false None behind none = record { early_not = refl; same_not = refl; behind_not = none }

pub in_order : (place : ℕ) (setups : List Parts) → disorder_from place setups ≡ None → AreInOrder setups
in_order place [] none = tt
in_order place (setup ∷ setups) none =
    let it = fine place (begins_early setup setups) (same_number setup.stream.0 (place + 1) setups) (disorder_from (place + 1) setups) none in
    (it.early_not, differ_none setup.stream.0 (place + 1) setups it.same_not, in_order (place + 1) setups it.behind_not)

pub none_told : (place : ℕ) (setups : List Parts) → AreInOrder setups → disorder_from place setups ≡ None
none_told place [] order = refl
none_told place (setup ∷ setups) order =
    let same = same_number setup.stream.0 (place + 1) setups in
    let behind = disorder_from (place + 1) setups in
    ap (λ (early : Bool). disorder_at place early same behind) order.0
    ∙ ap (λ (s : Option ℕ). disorder_at place false s behind) (none_differ setup.stream.0 (place + 1) setups order.1)
    ∙ none_told (place + 1) setups order.2
