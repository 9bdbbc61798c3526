-- Counts that rise at one place.
use Rattle.std.proofs.Common.{ℕ, zero, suc, ◌≤◌, List, [], ◌∷◌, get_or, set, arith}
use Rattle.tesla_counters.specs.Counts.{NoneFalls}

pub risen : (xs : List ℕ) (i n : ℕ) → get_or xs i 0 ≤ n → NoneFalls xs (set xs i n)
risen [] i n h index = omega arith
risen (x ∷ xs) zero n h zero = h
risen (x ∷ xs) zero n h (suc k) = omega arith
risen (x ∷ xs) (suc i) n h zero = omega arith
risen (x ∷ xs) (suc i) n h (suc k) = risen xs i n h k

-- as long as each was below its bound, and the number set is
pub set_within : (xs : List ℕ) (top : ℕ → ℕ) (i n : ℕ) → ((k : ℕ) → get_or xs k 0 ≤ top k) → n ≤ top i → (k : ℕ) → get_or (set xs i n) k 0 ≤ top k
set_within [] top i n h fits k = h k
set_within (x ∷ xs) top zero n h fits zero = fits
set_within (x ∷ xs) top zero n h fits (suc k) = h (suc k)
set_within (x ∷ xs) top (suc i) n h fits zero = h zero
set_within (x ∷ xs) top (suc i) n h fits (suc k) = set_within xs (λ j. top (suc j)) i n (λ j. h (suc j)) fits k

pub none_falls : (xs ys zs : List ℕ) → NoneFalls xs ys → NoneFalls ys zs → NoneFalls xs zs
none_falls xs ys zs f g k = let a = f k in let b = g k in omega arith
