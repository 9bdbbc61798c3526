-- What a function gives for the numbers below n, one after another.
use Rattle.std.proofs.Common.{◌≡◌, ℕ, ◌+◌, ◌<◌, ◌≤◌, List, [], ◌∷◌, ◌++◌, length, get_or, map, take, ap, ◌∙◌, arith}
use Rattle.std.specs.List.{range_with_len}
use Rattle.std.proofs.lemmas.List.{length-map, map-append, take_all, take_more}
use Rattle.std.proofs.lemmas.List.FromFn.{get_or-range_with_len, length-range_with_len}

-- with one number more
pub map_number_more : {A : Type 0} (f : ℕ → A) (n i : ℕ) → i < n → map f (take (i + 1) (range_with_len 0 n)) ≡ map f (take i (range_with_len 0 n)) ++ f i ∷ []
map_number_more {A = A} f n i h =
    let inside : i < length (range_with_len 0 n) = omega (arith, length-range_with_len 0 n) in
    let number : get_or (range_with_len 0 n) i 0 ≡ i = get_or-range_with_len 0 n i 0 h ∙ omega arith in
    ap (map f) (take_more (range_with_len 0 n) i 0 inside) ∙ map-append f (take i (range_with_len 0 n)) (get_or (range_with_len 0 n) i 0 ∷ [])
    ∙ ap (λ (k : ℕ). map f (take i (range_with_len 0 n)) ++ f k ∷ []) number

-- for all of them
pub map_numbers : {A : Type 0} (f : ℕ → A) (n i : ℕ) (xs : List A) → n ≤ i → xs ≡ map f (take i (range_with_len 0 n)) → xs ≡ map f (range_with_len 0 n)
map_numbers f n i xs h is = is ∙ ap (map f) (take_all i (range_with_len 0 n) (omega (arith, length-range_with_len 0 n)))

-- they are as many
pub length_numbers : {A : Type 0} (f : ℕ → A) (n : ℕ) (xs : List A) → xs ≡ map f (range_with_len 0 n) → length xs ≡ n
length_numbers f n xs is = ap length is ∙ length-map (range_with_len 0 n) f ∙ length-range_with_len 0 n
