-- What a test keeps of a list, and what functions make of it, by the elements that it has.
use Rattle.std.proofs.Common.{◌≡◌, ℕ, zero, suc, ◌<◌, ◌≤◌, Bool, true, false, cond, ◌&&◌, List, [], ◌∷◌, length, map, Some, refl, sym, ap, ⊎_elim, ◌∙◌, arith, eqb, not}
use Rattle.std.specs.List.{filter, find, list_all, list_any}
use Rattle.std.specs.Prelude.{slice_get}
use Rattle.std.proofs.lemmas.Bool.{and_parts, cases_Bool, cond-false, cond-true, eq-eqb, false_from_ne_true, false≢true, not_from_true, or_cases, or_left, or_right}
use Rattle.std.proofs.Math.Bool.{and_comm}
use Rattle.std.proofs.lemmas.List.Elements.{All-filter, filter_passes}
use Rattle.std.proofs.lemmas.List.Sums.{AllPass-from_list_all, list_all-from_AllPass}
use Rattle.std.proofs.lemmas.Option.{same_Some}
use Rattle.tesla_base.specs.Members.{Distinct, is_in, without}
use Rattle.tesla_base.proofs.Members.{in_cases, in_here, in_there, without_other}

-- tests that agree keep the same
pub filter_same : {A : Type 0} (p q : A → Bool) (xs : List A) → ((x : A) → p x ≡ q x) → filter p xs ≡ filter q xs
filter_same p q [] same = refl
filter_same p q (x ∷ xs) same = ap (λ b. cond b (x ∷ filter p xs) (filter p xs)) (same x) ∙ ap (λ ys. cond (q x) (x ∷ ys) ys) (filter_same p q xs same)

-- and so do those that agree on what passes another, where all pass that
pub filter_same_in : {A : Type 0} (t p q : A → Bool) (xs : List A) → list_all t xs ≡ true → ((x : A) → t x ≡ true → p x ≡ q x) → filter p xs ≡ filter q xs
filter_same_in t p q [] h same = refl
filter_same_in t p q (x ∷ xs) h same =
    let parts = and_parts (t x) (list_all t xs) h in
    ap (λ b. cond b (x ∷ filter p xs) (filter p xs)) (same x parts.0) ∙ ap (λ ys. cond (q x) (x ∷ ys) ys) (filter_same_in t p q xs parts.1 same)

-- tests that agree on a list keep the same of it
pub filter_on : (f g : ℕ → Bool) (xs : List ℕ) → ((p : ℕ) → is_in p xs ≡ true → f p ≡ g p) → filter f xs ≡ filter g xs
filter_on f g [] h = refl
filter_on f g (x ∷ xs) h =
    ap (λ b. cond b (x ∷ filter f xs) (filter f xs)) (h x (in_here x xs))
    ∙ ap (λ ys. cond (g x) (x ∷ ys) ys) (filter_on f g xs (λ p i. h p (in_there x p xs i)))

-- a test that nothing of a list passes keeps nothing of it
pub filter_nothing : (f : ℕ → Bool) (xs : List ℕ) → ((p : ℕ) → is_in p xs ≡ true → f p ≡ false) → filter f xs ≡ []
filter_nothing f [] h = refl
filter_nothing f (x ∷ xs) h =
    cond-false (f x) (x ∷ filter f xs) (filter f xs) (h x (in_here x xs)) ∙ filter_nothing f xs (λ p i. h p (in_there x p xs i))

-- functions that agree on a list give the same list
pub map_on : {X : Type 0} (f g : ℕ → X) (xs : List ℕ) → ((p : ℕ) → is_in p xs ≡ true → f p ≡ g p) → map f xs ≡ map g xs
map_on f g [] h = refl
map_on f g (x ∷ xs) h =
    ap (λ y. y ∷ map f xs) (h x (in_here x xs)) ∙ ap (λ ys. g x ∷ ys) (map_on f g xs (λ p i. h p (in_there x p xs i)))

-- two tests, one after the other, keep what passes both
pub filter_both : {X : Type 0} (f g : X → Bool) (xs : List X) → filter g (filter f xs) ≡ filter (λ x. f x && g x) xs
filter_both f g [] = refl
filter_both f g (x ∷ xs) =
    let both = filter (λ y. f y && g y) xs in
    elim (f x) as (λ b. filter g (cond b (x ∷ filter f xs) (filter f xs)) ≡ cond (b && g x) (x ∷ both) both) [
      | true ↦ ap (λ ys. cond (g x) (x ∷ ys) ys) (filter_both f g xs)
      | false ↦ filter_both f g xs
    ]

-- two tests keep the same in either order
pub filter-filter : {X : Type 0} (f g : X → Bool) (xs : List X) → filter f (filter g xs) ≡ filter g (filter f xs)
filter-filter f g xs = filter_both g f xs ∙ filter_same (λ x. g x && f x) (λ x. f x && g x) xs (λ x. and_comm (g x) (f x)) ∙ sym (filter_both f g xs)

-- a test of what a function makes
pub filter-map : {X Y : Type 0} (q : Y → Bool) (h : X → Y) (xs : List X) → filter q (map h xs) ≡ map h (filter (λ x. q (h x)) xs)
filter-map q h [] = refl
filter-map q h (x ∷ xs) =
    ap (λ ys. cond (q (h x)) (h x ∷ ys) ys) (filter-map q h xs)
    ∙ (elim (q (h x)) as (λ b. cond b (h x ∷ map h (filter (λ y. q (h y)) xs)) (map h (filter (λ y. q (h y)) xs)) ≡ map h (cond b (x ∷ filter (λ y. q (h y)) xs) (filter (λ y. q (h y)) xs))) [ true ↦ refl | false ↦ refl ])

-- what all pass, those that pass another test do too
pub all_filtered : {A : Type 0} (t p : A → Bool) (xs : List A) → list_all t xs ≡ true → list_all t (filter p xs) ≡ true
all_filtered t p xs h = list_all-from_AllPass t (filter p xs) (All-filter p (λ x. t x ≡ true) xs (AllPass-from_list_all t xs h))

-- what a test keeps passes
pub filtered_pass : {A : Type 0} (p : A → Bool) (xs : List A) → list_all p (filter p xs) ≡ true
filtered_pass p xs = list_all-from_AllPass p (filter p xs) (filter_passes p xs)

-- the first that is found is the first that is kept
pub find_first_kept : {A : Type 0} (p : A → Bool) (xs : List A) → find p xs ≡ slice_get (filter p xs) 0
find_first_kept p [] = refl
find_first_kept p (x ∷ xs) = elim (p x) as (λ b. cond b (Some x) (find p xs) ≡ slice_get (cond b (x ∷ filter p xs) (filter p xs)) 0) [
  | true ↦ refl
  | false ↦ find_first_kept p xs
]

any_kept : {A : Type 0} (p q : A → Bool) (y : A) (rest : List A) (b : Bool) → q y ≡ b → p y ≡ true → b ≡ true → list_any p (cond b (y ∷ rest) rest) ≡ true
any_kept p q y rest true e h good = or_left (p y) (list_any p rest) h
any_kept p q y rest false e h good = absurd (cc)

any_rest : {A : Type 0} (p : A → Bool) (y : A) (rest : List A) (b : Bool) → list_any p rest ≡ true → list_any p (cond b (y ∷ rest) rest) ≡ true
any_rest p y rest true h = or_right (p y) (list_any p rest) h
any_rest p y rest false h = h

-- what is found stands among those that pass another test, where it does
pub found_filtered : {A : Type 0} (p q : A → Bool) (xs : List A) (x : A) → find p xs ≡ Some x → q x ≡ true → list_any p (filter q xs) ≡ true
found_filtered p q [] x h good = absurd (cc)
found_filtered p q (y ∷ xs) x h good =
    ⊎_elim
    (λ e. let same : y ≡ x = same_Some y x (sym (ap (λ b. cond b (Some y) (find p xs)) e) ∙ h) in
    any_kept p q y (filter q xs) (q y) refl e (ap q same ∙ good))
    (λ e. any_rest p y (filter q xs) (q y) (found_filtered p q xs x (sym (ap (λ b. cond b (Some y) (find p xs)) e) ∙ h) good))
    (cases_Bool (p y))

-- what a test keeps is in the list and passes
pub in_filter : (f : ℕ → Bool) (p : ℕ) (xs : List ℕ) → is_in p (filter f xs) ≡ true → (is_in p xs ≡ true) × (f p ≡ true)
in_filter f p [] i = absurd (false≢true i)
in_filter f p (x ∷ xs) i =
    ⊎_elim
    (λ (e : f x ≡ true).
    ⊎_elim
    (λ (s : x ≡ p). (or_left (eqb x p) (is_in p xs) (eq-eqb x p s), ap f (sym s) ∙ e))
    (λ (more : is_in p (filter f xs) ≡ true). let r = in_filter f p xs more in (in_there x p xs r.0, r.1))
    (in_cases x p (filter f xs) (ap (is_in p) (sym (cond-true (f x) (x ∷ filter f xs) (filter f xs) e)) ∙ i)))
    (λ (e : f x ≡ false).
    let r = in_filter f p xs (ap (is_in p) (sym (cond-false (f x) (x ∷ filter f xs) (filter f xs) e)) ∙ i) in
    (in_there x p xs r.0, r.1))
    (cases_Bool (f x))

-- and what is in the list and passes is kept
pub in_filter_from : (f : ℕ → Bool) (p : ℕ) (xs : List ℕ) → is_in p xs ≡ true → f p ≡ true → is_in p (filter f xs) ≡ true
in_filter_from f p [] i e = i
in_filter_from f p (x ∷ xs) i e =
    ⊎_elim
    (λ (s : x ≡ p). ap (is_in p) (cond-true (f x) (x ∷ filter f xs) (filter f xs) (ap f s ∙ e)) ∙ or_left (eqb x p) (is_in p (filter f xs)) (eq-eqb x p s))
    (λ (more : is_in p xs ≡ true).
    let rest = in_filter_from f p xs more e in
    elim (f x) as (λ b. is_in p (cond b (x ∷ filter f xs) (filter f xs)) ≡ true) [ true ↦ in_there x p (filter f xs) rest | false ↦ rest ])
    (in_cases x p xs i)

-- what a test keeps of distinct numbers is distinct
pub distinct_filter : (f : ℕ → Bool) (xs : List ℕ) → Distinct xs → Distinct (filter f xs)
distinct_filter f [] d = tt
distinct_filter f (x ∷ xs) d =
    let rest = distinct_filter f xs d.1 in
    let none : is_in x (filter f xs) ≡ false = false_from_ne_true (is_in x (filter f xs)) (λ i. false≢true (sym d.0 ∙ (in_filter f x xs i).0)) in
    elim (f x) as (λ b. Distinct (cond b (x ∷ filter f xs) (filter f xs))) [ true ↦ (none, rest) | false ↦ rest ]

-- ---- fewer elements

-- one element more at most
one_longer : {A : Type 0} (x : A) (rest : List A) (b : Bool) → length (cond b (x ∷ rest) rest) ≤ suc (length rest)
one_longer x rest true = omega arith
one_longer x rest false = omega arith

-- what a test keeps is no more than there was
pub filter_shorter : {A : Type 0} (p : A → Bool) (xs : List A) → length (filter p xs) ≤ length xs
filter_shorter p [] = omega arith
filter_shorter p (x ∷ xs) = let rest = filter_shorter p xs in let step = one_longer x (filter p xs) (p x) in omega (arith, rest, step)

-- where some pass, those that fail are fewer
pub fails_fewer : {A : Type 0} (p : A → Bool) (xs : List A) → list_any p xs ≡ true → length (filter (λ x. not (p x)) xs) < length xs
fails_fewer p [] h = absurd (cc)
fails_fewer p (x ∷ xs) h =
    ⊎_elim
    (λ e. let all = filter_shorter (λ y. not (p y)) xs in
    let now : length (filter (λ y. not (p y)) (x ∷ xs)) ≡ length (filter (λ y. not (p y)) xs) = ap (λ b. length (cond (not b) (x ∷ filter (λ y. not (p y)) xs) (filter (λ y. not (p y)) xs))) e in omega (arith, all, now))
    (λ e. let rest = fails_fewer p xs e in let step = one_longer x (filter (λ y. not (p y)) xs) (not (p x)) in omega (arith, rest, step))
    (or_cases (p x) (list_any p xs) h)

-- without one that it has it is shorter
pub without_shorter : (p : ℕ) (xs : List ℕ) → is_in p xs ≡ true → length (without p xs) < length xs
without_shorter p [] i = absurd (false≢true i)
without_shorter p (x ∷ xs) i =
    ⊎_elim
    (λ (s : x ≡ p). let e = ap length (cond-false (not (eqb x p)) (x ∷ without p xs) (without p xs) (not_from_true (eqb x p) (eq-eqb x p s))) in omega (arith, e, filter_shorter (λ y. not (eqb y p)) xs))
    (λ (more : is_in p xs ≡ true).
    let rest = without_shorter p xs more in
    elim (not (eqb x p)) as (λ b. length (cond b (x ∷ without p xs) (without p xs)) < suc (length xs)) [ true ↦ omega (arith, rest) | false ↦ omega (arith, rest) ])
    (in_cases x p xs i)

-- fewer than n numbers leave out one below n
pub left_out : (n : ℕ) (xs : List ℕ) → length xs < n → (g : ℕ) × (g < n) × (is_in g xs ≡ false)
left_out zero xs short = absurd (omega arith)
left_out (suc n) xs short =
    ⊎_elim
    (λ (i : is_in n xs ≡ true).
    let fewer = without_shorter n xs i in
    let found = left_out n (without n xs) (omega (arith, fewer)) in
    let below : found.0 < n = found.1 in
    let ne : found.0 ≡ n → ⊥ = λ e. absurd (omega arith) in
    (found.0, omega (arith, found.1), sym (without_other n found.0 xs ne) ∙ found.2))
    (λ (none : is_in n xs ≡ false). (n, omega arith, none))
    (cases_Bool (is_in n xs))
