-- Sums along a list, and how many of its elements pass.
use Rattle.std.proofs.Common.{◌≡◌, ℕ, ◌+◌, ◌*◌, ◌≤◌, Bool, true, cond, List, [], ◌∷◌, length, flat_map, count_by, refl, sym, ap, ◌∙◌, arith}
use Rattle.std.specs.List.{list_all, sum_by}
use Rattle.std.proofs.Math.Nat.{suc-mul}
use Rattle.std.proofs.lemmas.Bool.{and_parts}
use Rattle.std.proofs.lemmas.List.Sums.{sum_by-cons, sum_by-append}

-- the sums of functions that agree on what passes a test
pub sum_same : {A : Type 0} (t : A → Bool) (f g : A → ℕ) (xs : List A) → list_all t xs ≡ true → ((x : A) → t x ≡ true → f x ≡ g x) → sum_by f xs ≡ sum_by g xs
sum_same t f g [] h same = refl
sum_same t f g (x ∷ xs) h same =
    let parts = and_parts (t x) (list_all t xs) h in
    sum_by-cons f x xs ∙ ap (λ n. n + sum_by f xs) (same x parts.0) ∙ ap (λ n. g x + n) (sum_same t f g xs parts.1 same) ∙ sym (sum_by-cons g x xs)

-- a sum of numbers that are each at most so much
pub sum_most : {A : Type 0} (f : A → ℕ) (most : ℕ) (t : A → Bool) (xs : List A) → list_all t xs ≡ true → ((x : A) → t x ≡ true → f x ≤ most) → sum_by f xs ≤ length xs * most
sum_most f most t [] h small = omega arith
sum_most f most t (x ∷ xs) h small =
    let parts = and_parts (t x) (list_all t xs) h in
    let here = small x parts.0 in
    let rest = sum_most f most t xs parts.1 small in
    omega (arith, here, rest, sum_by-cons f x xs, suc-mul (length xs) most)

-- ---- how many

-- each gives as many that pass as the test says, one or none
pub count_gathered : {A B : Type 0} (q : B → Bool) (f : A → List B) (p : A → Bool) (xs : List A) → ((x : A) → count_by q (f x) ≡ cond (p x) 1 0) → count_by q (flat_map f xs) ≡ count_by p xs
count_gathered q f p [] each = refl
count_gathered q f p (x ∷ xs) each =
    sum_by-append (λ y. cond (q y) 1 0) (f x) (flat_map f xs) ∙ ap (λ n. n + count_by q (flat_map f xs)) (each x)
    ∙ ap (λ n. cond (p x) 1 0 + n) (count_gathered q f p xs each) ∙ sym (sum_by-cons (λ z. cond (p z) 1 0) x xs)

-- all elements pass a test that says yes
pub count_all : {A : Type 0} (xs : List A) → count_by (λ (x : A). true) xs ≡ length xs
count_all [] = refl
count_all (x ∷ xs) = let rest = count_all xs in sum_by-cons (λ (y : _). cond true 1 0) x xs ∙ omega (arith, rest)
