-- The first of the last promises that passes a test is used.
use Rattle.std.proofs.Common.{◌≡◌, ◌≢◌, ◌≤◌, ◌<◌, ℕ, suc, ◌+◌, ◌-◌, Bool, true, ◌||◌, List, [], ◌∷◌, ◌++◌, length, take, drop, map, set, get_or, Some, refl, sym, ap, subst, ⊎_elim, ◌∙◌, arith}
use Rattle.std.specs.Prelude.{slice_get}
use Rattle.std.specs.List.{list_any}
use Rattle.std.proofs.lemmas.Bool.{cases_Bool, cond-false, cond-true}
use Rattle.std.proofs.lemmas.List.{drop-set-add, get_or-set_same, get_or-set_other, length-set, map-set, set-get_or, take-append-drop, take-set-le}
use Rattle.std.proofs.lemmas.Option.{get_or_from_slice_get, slice_get-get_or, slice_get_within}
use Rattle.tesla_base.proofs.Lists.{from_drop}
use Rattle.tesla_early.specs.Learnt.{Learnt, last_of, on_last, use_first}

-- ---- an element that is set

pub set_here : {A : Type 0} (xs : List A) (i : ℕ) (x : A) → i < length xs → slice_get (set xs i x) i ≡ Some x
set_here xs i x within =
    slice_get-get_or (set xs i x) i x (subst (λ n. i < n) (sym (length-set xs i x)) within) ∙ ap (λ y. Some y) (get_or-set_same xs i x x within)

pub set_there : {A : Type 0} (xs : List A) (i k : ℕ) (x y : A) → k ≢ i → slice_get xs k ≡ Some y → slice_get (set xs i x) k ≡ Some y
set_there xs i k x y differs at =
    let within = slice_get_within xs k y at in
    slice_get-get_or (set xs i x) k x (subst (λ n. k < n) (sym (length-set xs i x)) within)
    ∙ ap (λ z. Some z) (get_or-set_other xs i k x x differs ∙ get_or_from_slice_get xs k y x at)

-- what a function gives stays so, where it gives the same for the new element
pub map_set_same : {A B : Type 0} (f : A → B) (xs : List A) (i : ℕ) (x y : A) → slice_get xs i ≡ Some x → f y ≡ f x → map f (set xs i y) ≡ map f xs
map_set_same f xs i x y at same =
    map-set f xs i y ∙ ap (set (map f xs) i) (same ∙ ap f (sym (get_or_from_slice_get xs i x x at)))
    ∙ sym (map-set f xs i (get_or xs i x)) ∙ ap (map f) (set-get_or xs i x)

-- ---- the first that passes

-- the promise, used
abbrev pub used_up : Learnt → Learnt
used_up it = record it { used = true }

-- one that passes is used, and nothing else changes
pub record UsesFirst (test : Learnt → Bool) (xs : List Learnt) : Type 0 where
  pub place : ℕ
  pub it : Learnt
  pub at : slice_get xs place ≡ Some it
  pub passes : test it ≡ true
  pub is : use_first test xs ≡ set xs place (used_up it)

pub uses_first : (test : Learnt → Bool) (xs : List Learnt) → list_any test xs ≡ true → UsesFirst test xs
uses_first test [] some = absurd (cc)
uses_first test (x ∷ xs) some =
    ⊎_elim
    (λ passes. record { place = 0; it = x; at = refl; passes = passes; is = cond-true (test x) (used_up x ∷ xs) (x ∷ use_first test xs) passes })
    (λ fails. let later = uses_first test xs (ap (λ b. b || list_any test xs) (sym fails) ∙ some) in
    record {
      place = suc later.place;
      it = later.it;
      at = later.at;
      passes = later.passes;
      is = cond-false (test x) (used_up x ∷ xs) (x ∷ use_first test xs) fails ∙ ap (λ ys. x ∷ ys) later.is;
    })
    (cases_Bool (test x))

-- of the last so many, one that passes is used, and nothing else changes
pub record UsesOne (most : ℕ) (test : Learnt → Bool) (xs : List Learnt) : Type 0 where
  pub place : ℕ
  pub it : Learnt
  pub at : slice_get xs place ≡ Some it
  pub passes : test it ≡ true
  pub last : length xs ≤ place + most
  pub is : on_last most (use_first test) xs ≡ set xs place (used_up it)

pub uses_one : (most : ℕ) (test : Learnt → Bool) (xs : List Learnt) → list_any test (last_of most xs) ≡ true → UsesOne most test xs
uses_one most test xs some =
    let n = length xs - most in
    let first = uses_first test (drop n xs) some in
    record {
      place = n + first.place;
      it = first.it;
      at = sym (from_drop xs n first.place) ∙ first.at;
      passes = first.passes;
      last = omega arith;
      is = ap (λ ys. take n xs ++ ys) first.is ∙ put n xs first.place (used_up first.it);
    }
  where
    put : (n : ℕ) (xs : List Learnt) (i : ℕ) (x : Learnt) → take n xs ++ set (drop n xs) i x ≡ set xs (n + i) x
    put n xs i x =
        ap (λ ys. ys ++ set (drop n xs) i x) (sym (take-set-le n xs (n + i) x (omega arith)))
        ∙ ap (λ ys. take n (set xs (n + i) x) ++ ys) (sym (drop-set-add n xs i x)) ∙ take-append-drop n (set xs (n + i) x)
