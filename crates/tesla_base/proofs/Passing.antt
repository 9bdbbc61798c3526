-- Elements that pass a test: all, some or none of a list, and the first.
use Rattle.std.proofs.Common.{◌≡◌, ℕ, zero, suc, ◌+◌, ◌<◌, Bool, true, false, cond, ◌&&◌, ◌||◌, List, [], ◌∷◌, ◌++◌, take, Option, Some, None, refl, sym, ap, subst, ⊎_elim, ◌∙◌, arith}
use Rattle.std.specs.Prelude.{not, slice_get, find}
use Rattle.std.specs.List.{list_any, list_all}
use Rattle.std.proofs.lemmas.Bool.{and_parts, and_from, or_parts, or_cases, or_from, or_left, or_right, not_from_false, not-true}
use Rattle.std.proofs.lemmas.Option.{same_Some}
use Rattle.tesla_base.proofs.Lists.{list_any_got, taken_at}

-- ---- tests

-- tests that follow from each other agree
pub same_test : (a b : Bool) → (a ≡ true → b ≡ true) → (b ≡ true → a ≡ true) → a ≡ b
same_test true b f g = sym (f refl)
same_test false true f g = g refl
same_test false false f g = refl

-- what follows from a test, as one test
pub implied : (a b : Bool) → (a ≡ true → b ≡ true) → (not a || b) ≡ true
implied true b h = h refl
implied false b h = refl

-- ---- all of them, or some

-- tests that agree
pub all_same : {A : Type 0} (p q : A → Bool) (xs : List A) → ((x : A) → p x ≡ q x) → list_all p xs ≡ list_all q xs
all_same p q [] same = refl
all_same p q (x ∷ xs) same = ap (λ b. b && list_all p xs) (same x) ∙ ap (λ b. q x && b) (all_same p q xs same)

pub any_same : {A : Type 0} (p q : A → Bool) (xs : List A) → ((x : A) → p x ≡ q x) → list_any p xs ≡ list_any q xs
any_same p q [] same = refl
any_same p q (x ∷ xs) same = ap (λ b. b || list_any p xs) (same x) ∙ ap (λ b. q x || b) (any_same p q xs same)

-- all pass a test that says yes
pub all_true : {A : Type 0} (xs : List A) → list_all (λ (x : A). true) xs ≡ true
all_true [] = refl
all_true (x ∷ xs) = all_true xs

-- each element passes what all do
pub passes_at : {A : Type 0} (p : A → Bool) (xs : List A) (k : ℕ) (x : A) → list_all p xs ≡ true → slice_get xs k ≡ Some x → p x ≡ true
passes_at p [] k x h at = absurd (cc)
passes_at p (y ∷ xs) zero x h at = ap p (sym (same_Some y x at)) ∙ (and_parts (p y) (list_all p xs) h).0
passes_at p (y ∷ xs) (suc k) x h at = passes_at p xs k x ((and_parts (p y) (list_all p xs) h).1) at

-- an element that passes, with its place
pub record Passes {A : Type 0} (p : A → Bool) (xs : List A) : Type 0 where
  pub place : ℕ
  pub element : A
  pub at : slice_get xs place ≡ Some element
  pub passes : p element ≡ true

-- where some pass, one does at a place
pub passes_somewhere : {A : Type 0} (p : A → Bool) (xs : List A) → list_any p xs ≡ true → Passes p xs
passes_somewhere p [] h = absurd (cc)
passes_somewhere p (x ∷ xs) h =
    ⊎_elim
    (λ e. record { place = 0; element = x; at = refl; passes = e })
    (λ e. let later = passes_somewhere p xs e in record { place = suc later.place; element = later.element; at = later.at; passes = later.passes })
    (or_cases (p x) (list_any p xs) h)

-- where none passes, all fail
pub all_fail : {A : Type 0} (p : A → Bool) (xs : List A) → list_any p xs ≡ false → list_all (λ x. not (p x)) xs ≡ true
all_fail p [] h = refl
all_fail p (x ∷ xs) h =
    let parts = or_parts (p x) (list_any p xs) h in
    and_from (not (p x)) (list_all (λ y. not (p y)) xs) (not_from_false (p x) parts.0) (all_fail p xs parts.1)

-- where all fail, none passes
pub none_passes : {A : Type 0} (p : A → Bool) (xs : List A) → list_all (λ x. not (p x)) xs ≡ true → list_any p xs ≡ false
none_passes p [] h = refl
none_passes p (x ∷ xs) h =
    let parts = and_parts (not (p x)) (list_all (λ y. not (p y)) xs) h in
    or_from (p x) (list_any p xs) (not-true (p x) parts.0) (none_passes p xs parts.1)

-- ---- in a front

-- an element that passes in a front
pub any_taken : {A : Type 0} (p : A → Bool) (n : ℕ) (xs : List A) → list_any p (take n xs) ≡ true → list_any p xs ≡ true
any_taken p zero xs h = absurd (cc)
any_taken p (suc n) [] h = absurd (cc)
any_taken p (suc n) (x ∷ xs) h =
    ⊎_elim (λ e. or_left (p x) (list_any p xs) e) (λ e. or_right (p x) (list_any p xs) (any_taken p n xs e)) (or_cases (p x) (list_any p (take n xs)) h)

-- an element of a front that passes
pub any_before : {A : Type 0} (p : A → Bool) (xs : List A) (i n : ℕ) (x : A) → i < n → slice_get xs i ≡ Some x → p x ≡ true → list_any p (take n xs) ≡ true
any_before p xs i n x less at h = list_any_got p (take n xs) i x (taken_at xs i n less ∙ at) h

-- one that passes within the first k does so in a longer list
pub any_longer : {A : Type 0} (p : A → Bool) (xs ys : List A) (k : ℕ) → list_any p (take k xs) ≡ true → list_any p (take k (xs ++ ys)) ≡ true
any_longer p xs ys zero h = absurd (cc)
any_longer p [] ys (suc k) h = absurd (cc)
any_longer p (x ∷ xs) ys (suc k) h =
    ⊎_elim (λ e. or_left (p x) (list_any p (take k (xs ++ ys))) e) (λ e. or_right (p x) (list_any p (take k (xs ++ ys))) (any_longer p xs ys k e)) (or_cases (p x) (list_any p (take k xs)) h)

-- one that passes within the first k does so within more
pub any_further : {A : Type 0} (p : A → Bool) (xs : List A) (k more : ℕ) → list_any p (take k xs) ≡ true → list_any p (take (k + more) xs) ≡ true
any_further p xs zero more h = absurd (cc)
any_further p [] (suc k) more h = absurd (cc)
any_further p (x ∷ xs) (suc k) more h =
    let count : suc (k + more) ≡ suc k + more = omega arith in
    subst (λ (n : ℕ). list_any p (take n (x ∷ xs)) ≡ true) count
    (⊎_elim (λ e. or_left (p x) (list_any p (take (k + more) xs)) e) (λ e. or_right (p x) (list_any p (take (k + more) xs)) (any_further p xs k more e)) (or_cases (p x) (list_any p (take k xs)) h))

-- ---- the first

-- tests that agree on what passes another find the same where all pass that
pub find_same : {A : Type 0} (t p q : A → Bool) (xs : List A) → list_all t xs ≡ true → ((x : A) → t x ≡ true → p x ≡ q x) → find p xs ≡ find q xs
find_same t p q [] h same = refl
find_same t p q (x ∷ xs) h same =
    let parts = and_parts (t x) (list_all t xs) h in
    ap (λ b. cond b (Some x) (find p xs)) (same x parts.0) ∙ ap (λ o. cond (q x) (Some x) o) (find_same t p q xs parts.1 same)

-- where all fail, none is found
pub none_found : {A : Type 0} (p : A → Bool) (xs : List A) → list_all (λ x. not (p x)) xs ≡ true → find p xs ≡ None
none_found p [] h = refl
none_found p (x ∷ xs) h =
    let parts = and_parts (not (p x)) (list_all (λ y. not (p y)) xs) h in
    let no : p x ≡ false = not-true (p x) parts.0 in
    rw no (none_found p xs parts.1)

none_step : {A : Type 0} (x : A) (b : Bool) (found : Option A) (rest : Bool) → cond b (Some x) found ≡ None → (found ≡ None → rest ≡ true) → (not b && rest) ≡ true
none_step x true found rest e h = absurd (cc)
none_step x false found rest e h = h e

-- where none is found, all fail
pub unfound_fail : {A : Type 0} (p : A → Bool) (xs : List A) → find p xs ≡ None → list_all (λ x. not (p x)) xs ≡ true
unfound_fail p [] e = refl
unfound_fail p (x ∷ xs) e = none_step x (p x) (find p xs) (list_all (λ y. not (p y)) xs) e (unfound_fail p xs)
