-- Lists of one.
use Rattle.std.proofs.Common.{◌≡◌, ◌≤◌, ◌<◌, ℕ, List, [], ◌∷◌, length, get_or, map, ap, sym, arith}

-- a list of one, told it
pub one_is : {A : Type 0} (f : A → List ℕ) (xs : List A) (a : A) → 1 ≤ length xs → length xs < 2 → a ≡ get_or xs 0 a → map f xs ≡ f a ∷ []
one_is f [] a least most e = absurd (omega arith)
one_is f (x ∷ []) a least most e = ap (λ y. f y ∷ []) (sym e)
one_is f (x ∷ y ∷ xs) a least most e = absurd (omega arith)
