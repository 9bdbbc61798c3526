-- Lists over the numbers of the epochs.
use Rattle.std.proofs.Common.{◌≡◌, ◌≢◌, ℕ, zero, suc, ◌+◌, ◌<◌, ◌≤◌, List, [], ◌∷◌, map, set, refl, sym, ap, ◌∙◌, arith}
use Rattle.std.specs.List.{range_with_len}

-- functions that agree on the numbers below
pub map_below : {A : Type 0} (f g : ℕ → A) (a n : ℕ) → ((k : ℕ) → k < a + n → f k ≡ g k) → map f (range_with_len a n) ≡ map g (range_with_len a n)
map_below f g a zero same = refl
map_below f g a (suc n) same =
    ap (λ x. x ∷ map f (range_with_len (a + 1) n)) (same a (omega arith)) ∙ ap (λ xs. g a ∷ xs) (map_below f g (a + 1) n (λ k h. same k (omega arith)))

pub map_map : {A B C : Type 0} (g : B → C) (f : A → B) (xs : List A) → map g (map f xs) ≡ map (λ x. g (f x)) xs
map_map g f [] = refl
map_map g f (x ∷ xs) = ap (λ ys. g (f x) ∷ ys) (map_map g f xs)

-- functions that agree on the numbers from one on
pub rest_same : {A : Type 0} (f g : ℕ → A) (a n : ℕ) → ((k : ℕ) → a ≤ k → g k ≡ f k) → map g (range_with_len a n) ≡ map f (range_with_len a n)
rest_same f g a zero same = refl
rest_same f g a (suc n) same =
    ap (λ x. x ∷ map g (range_with_len (a + 1) n)) (same a (omega arith)) ∙ ap (λ xs. f a ∷ xs) (rest_same f g (a + 1) n (λ k h. same k (omega (arith, h))))

-- a function that differs at one number
map_changed : {A : Type 0} (f g : ℕ → A) (a n e : ℕ) → ((k : ℕ) → k ≢ a + e → g k ≡ f k) → map g (range_with_len a n) ≡ set (map f (range_with_len a n)) e (g (a + e))
map_changed f g a zero e other = refl
map_changed f g a (suc n) zero other =
    let here : a + zero ≡ a = omega arith in
    ap (λ (k : ℕ). g k ∷ map g (range_with_len (a + 1) n)) (sym here)
    ∙ ap (λ xs. g (a + zero) ∷ xs) (rest_same f g (a + 1) n (λ k h. other k (λ same. omega (arith, same, h))))
map_changed f g a (suc n) (suc e) other =
    let further : a + 1 + e ≡ a + suc e = omega arith in
    ap (λ x. x ∷ map g (range_with_len (a + 1) n)) (other a (λ same. omega (arith, same)))
    ∙ ap (λ xs. f a ∷ xs) (map_changed f g (a + 1) n e (λ k differs. other k (λ same. differs (same ∙ sym further)))
    ∙ ap (λ k. set (map f (range_with_len (a + 1) n)) e (g k)) further)

pub map_set_at : {A : Type 0} (f g : ℕ → A) (n e : ℕ) → ((k : ℕ) → k ≢ e → g k ≡ f k) → map g (range_with_len 0 n) ≡ set (map f (range_with_len 0 n)) e (g e)
map_set_at f g n e other =
    let plain : 0 + e ≡ e = omega arith in
    map_changed f g 0 n e (λ k differs. other k (λ same. differs (same ∙ sym plain))) ∙ ap (λ k. set (map f (range_with_len 0 n)) e (g k)) plain
