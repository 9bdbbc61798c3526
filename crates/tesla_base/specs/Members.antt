-- Whether a number stands in a list, and lists without repeats. Also what stands behind it.
use Rattle.std.specs.Prelude.{◌≡◌, ℕ, ◌==◌, Bool, false, not, cond, List, [], ◌∷◌, Option, None, slice_get}
use Rattle.std.specs.List.{filter, list_any}

-- whether a number stands in a list
abbrev pub is_in : ℕ → List ℕ → Bool
is_in place xs = list_any (λ x. x == place) xs

-- a list without a number
abbrev pub without : ℕ → List ℕ → List ℕ
without place xs = filter (λ x. not (x == place)) xs

-- what stands behind a number in a list
abbrev pub next_in : ℕ → List ℕ → Option ℕ
next_in place [] = None
next_in place (x ∷ xs) = cond (x == place) (slice_get xs 0) (next_in place xs)

-- no number stands twice in a list
abbrev pub Distinct : List ℕ → Type 0
Distinct [] = Unit {0}
Distinct (x ∷ xs) = (is_in x xs ≡ false) × Distinct xs
