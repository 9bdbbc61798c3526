-- A list whose numbers rise is the only order of its elements in which they don't fall.
use Rattle.std.proofs.Common.{◌≡◌, ℕ, zero, suc, ◌<◌, ◌≤◌, true, false, cond, List, [], ◌∷◌, length, get_or, map, refl, sym, ap, ◌∙◌, ◌⊎◌, inl, inr, arith}
use Rattle.std.specs.Prelude.{nat_le}
use Rattle.std.specs.List.{All, sum_by}
use Rattle.std.specs.List.Sorted.{IsNonDecreasingBy, IsPermutation}
use Rattle.std.proofs.lemmas.Bool.{cases_Bool}
use Rattle.std.proofs.lemmas.Bool.Decides.{nat_tests}
use Rattle.std.proofs.lemmas.List.{get_or-map, length-map}
use Rattle.std.proofs.lemmas.List.Elements.{All-cons, All-head, All-tail}
use Rattle.std.proofs.lemmas.List.Sorted.{All-permutation, sum_by-IsPermutation}
use Rattle.std.proofs.lemmas.List.Sums.{sum_by-cons}
use Rattle.tesla_walks.specs.Proved.{RiseBy}
use Rattle.tesla_walks.proofs.Offering.{any_default}

at_most : (a b : ℕ) → nat_le a b ≡ true → a ≤ b
at_most a b h = grind (arith, nat_tests)

at_least : (a b : ℕ) → nat_le a b ≡ false → b < a
at_least a b h = grind (arith, nat_tests)

-- ---- counts of small numbers

-- 1 where the number is at most m
abbrev small : {A : Type 0} → (A → ℕ) → ℕ → A → ℕ
small number m x = cond (nat_le (number x) m) 1 0

is_small : (a m : ℕ) → a ≤ m → nat_le a m ≡ true
is_small a m h = grind (arith, nat_tests)

is_large : (a m : ℕ) → m < a → nat_le a m ≡ false
is_large a m h = grind (arith, nat_tests)

le_or_lt : (a b : ℕ) → (a ≤ b) ⊎ (b < a)
le_or_lt a b = elim (cases_Bool (nat_le a b)) [ inl e ↦ inl (at_most a b e) | inr e ↦ inr (at_least a b e) ]

module _ {A : Type 0} (number : A → ℕ) where
  -- none is small
  none_small : (m : ℕ) (xs : List A) → All (λ x. m < number x) xs → sum_by (small number m) xs ≡ 0
  none_small m [] all = refl
  none_small m (x ∷ xs) all =
      let here : small number m x ≡ 0 = ap (λ b. cond b 1 0) (is_large (number x) m (All-head (λ x. m < number x) x xs all)) in
      let rest : sum_by (small number m) xs ≡ 0 = none_small m xs (All-tail (λ x. m < number x) x xs all) in
      omega (arith, here, rest, sum_by-cons (small number m) x xs)

  -- one is small
  one_small : (m : ℕ) (x : A) (xs : List A) → number x ≤ m → 1 ≤ sum_by (small number m) (x ∷ xs)
  one_small m x xs h =
      let here : small number m x ≡ 1 = ap (λ b. cond b 1 0) (is_small (number x) m h) in
      omega (arith, here, sum_by-cons (small number m) x xs)

  -- the sums of one list with no small number and of one with a small number differ
  none_and_one : (m : ℕ) (x : A) (xs : List A) (y : A) (ys : List A) → All (λ z. m < number z) xs → m < number x → number y ≤ m → ((f : A → ℕ) → sum_by f (x ∷ xs) ≡ sum_by f (y ∷ ys)) → ⊥
  none_and_one m x xs y ys large h small_y sums =
      let none = none_small m (x ∷ xs) (All-cons (λ z. m < number z) x xs h large) in
      let one = one_small m y ys small_y in
      let same : sum_by (small number m) (x ∷ xs) ≡ sum_by (small number m) (y ∷ ys) = sums (small number m) in
      omega (arith, none, one, same)

-- ---- the only order

module _ {A : Type 0} (number : A → ℕ) (Has : A → Type 0) (apart : (x y : A) → Has x → Has y → number x ≡ number y → x ≡ y) where
  pub same_order : (xs ys : List A) → All Has xs → All Has ys → RiseBy number xs → IsNonDecreasingBy number ys → ((f : A → ℕ) → sum_by f xs ≡ sum_by f ys) → ys ≡ xs
  same_order [] [] hx hy rise up sums = refl
  same_order [] (y ∷ ys) hx hy rise up sums = let e : 0 ≡ sum_by (λ z. 1) (y ∷ ys) = sums (λ z. 1) in absurd (omega (arith, e, sum_by-cons (λ z. 1) y ys))
  same_order (x ∷ xs) [] hx hy rise up sums = let e : sum_by (λ z. 1) (x ∷ xs) ≡ 0 = sums (λ z. 1) in absurd (omega (arith, e, sum_by-cons (λ z. 1) x xs))
  same_order (x ∷ xs) (y ∷ ys) hx hy rise up sums =
      let low : number x ≤ number y = elim (le_or_lt (number x) (number y)) [
        | inl h ↦ h
        | inr h ↦ absurd (none_and_one number (number y) x xs y ys (λ k d i. omega (arith, h, rise.0 k d i)) h (omega arith) sums)
      ] in
      let high : number y ≤ number x = elim (le_or_lt (number y) (number x)) [
        | inl h ↦ h
        | inr h ↦ absurd (none_and_one number (number x) y ys x xs (λ k d i. omega (arith, h, up 0 (suc k) d (omega arith) (omega arith))) h (omega arith) (λ f. sym (sums f)))
      ] in
      let same : x ≡ y = apart x y (All-head Has x xs hx) (All-head Has y ys hy) (omega (arith, low, high)) in
      ap (λ z. z ∷ ys) (sym same)
      ∙ ap (λ zs. x ∷ zs) (same_order xs ys (All-tail Has x xs hx) (All-tail Has y ys hy) rise.1
      (λ i j d h k. up (suc i) (suc j) d (omega arith) (omega arith))
      (λ f. let here : f x ≡ f y = ap f same in let all : sum_by f (x ∷ xs) ≡ sum_by f (y ∷ ys) = sums f in omega (arith, here, all, sum_by-cons f x xs, sum_by-cons f y ys)))

-- ---- elements of a list whose numbers rise

-- of two places the number at the second is greater
rises_at : {A : Type 0} (number : A → ℕ) (xs : List A) (i j : ℕ) (d e : A) → RiseBy number xs → i < j → j < length xs → number (get_or xs i d) < number (get_or xs j e)
rises_at number [] i j d e rise below inside = absurd (omega arith)
rises_at number (x ∷ xs) zero zero d e rise below inside = absurd (omega arith)
rises_at number (x ∷ xs) zero (suc j) d e rise below inside = rise.0 j e (omega arith)
rises_at number (x ∷ xs) (suc i) zero d e rise below inside = absurd (omega arith)
rises_at number (x ∷ xs) (suc i) (suc j) d e rise below inside = rises_at number xs i j d e rise.1 (omega arith) (omega arith)

-- it stands at a place of the list
abbrev IsIn : {A : Type 0} → List A → A → Type 0
IsIn xs x = (k : ℕ) × (k < length xs) × (get_or xs k x ≡ x)

-- two elements of one number are one
apart_in : {A : Type 0} (number : A → ℕ) (xs : List A) → RiseBy number xs → (x y : A) → IsIn xs x → IsIn xs y → number x ≡ number y → x ≡ y
apart_in number xs rise x y (i, in_i, at_i) (j, in_j, at_j) same =
    let at_x = ap number at_i in let at_y = ap number at_j in
    let up : i ≤ j = elim (le_or_lt i j) [
      | inl h ↦ h
      | inr h ↦ absurd (omega (arith, rises_at number xs j i y x rise h in_i, at_x, at_y, same))
    ] in
    let down : j ≤ i = elim (le_or_lt j i) [
      | inl h ↦ h
      | inr h ↦ absurd (omega (arith, rises_at number xs i j x y rise h in_j, at_x, at_y, same))
    ] in
    let here : i ≡ j = omega (arith, up, down) in
    sym at_i ∙ ap (λ k. get_or xs k x) here ∙ any_default xs j x y in_j ∙ at_j

-- a list of the same elements in which the numbers don't fall is the list whose numbers rise
pub only_order : {A : Type 0} (number : A → ℕ) (xs ys : List A) → RiseBy number xs → IsNonDecreasingBy number ys → IsPermutation xs ys → ys ≡ xs
only_order number xs ys rise up moved =
    let own : All (IsIn xs) xs = λ k d inside. (k, inside, any_default xs k (get_or xs k d) d inside) in
    same_order number (IsIn xs) (apart_in number xs rise) xs ys own (All-permutation (IsIn xs) xs ys moved own) rise up (λ f. sym (sum_by-IsPermutation f xs ys moved))

-- the numbers that a function of the elements gives don't fall
pub up_by : {A B : Type 0} (f : A → B) (number : B → ℕ) (xs : List A) → IsNonDecreasingBy (λ x. number (f x)) xs → IsNonDecreasingBy number (map f xs)
up_by f number [] up i j d below inside = absurd (omega arith)
up_by f number (x ∷ xs) up i j d below inside =
    let size : length (map f (x ∷ xs)) ≡ length (x ∷ xs) = length-map (x ∷ xs) f in
    let at_i = get_or-map f (x ∷ xs) i x d (omega (arith, size, below, inside)) in
    let at_j = get_or-map f (x ∷ xs) j x d (omega (arith, size, inside)) in
    omega (arith, ap number at_i, ap number at_j, up i j x below (omega (arith, size, inside)))
