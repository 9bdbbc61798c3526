-- Whether a number stands in a list, and lists in which none stands twice.
use Rattle.std.proofs.Common.{◌≡◌, ℕ, zero, suc, ◌+◌, ◌<◌, ◌≤◌, true, false, not, ◌||◌, List, [], ◌∷◌, ◌++◌, length, get_or, map, replicate, Some, refl, sym, ap, subst, ◌∙◌, arith, eqb, ◌⊎◌, inl, inr, ⊎_elim}
use Rattle.std.specs.List.{list_any, range_with_len}
use Rattle.std.specs.Prelude.{slice_get}
use Rattle.std.proofs.Math.ListN.{set}
use Rattle.std.proofs.lemmas.Bool.{cases_Bool, cases_eq, cond-false, cond-true, eq-eqb, eqb-false, eqb-true, false≢true, ne_eqb, not_from_false, not_from_true, or_cases, or_from, or_left, or_parts, or_right}
use Rattle.std.proofs.lemmas.List.Folds.{list_any-append}
use Rattle.std.proofs.lemmas.List.{length-append}
use Rattle.tesla_base.specs.Members.{Distinct, is_in, next_in, without}

-- a number that isn't in a list with a first number is not the first, nor in the rest
pub apart : (x place : ℕ) (xs : List ℕ) → is_in place (x ∷ xs) ≡ false → (x ≡ place → ⊥) × (is_in place xs ≡ false)
apart x place xs h = let parts = or_parts (eqb x place) (is_in place xs) h in (eqb-false x place parts.0, parts.1)

-- the other way round
pub apart_from : (x place : ℕ) (xs : List ℕ) → (x ≡ place → ⊥) → is_in place xs ≡ false → is_in place (x ∷ xs) ≡ false
apart_from x place xs differs none = or_from (eqb x place) (is_in place xs) (ne_eqb x place differs) none

-- the first number is in the list
pub in_here : (x : ℕ) (xs : List ℕ) → is_in x (x ∷ xs) ≡ true
in_here x xs = or_left (eqb x x) (is_in x xs) (eq-eqb x x refl)

-- what is in the rest is in the list
pub in_there : (x place : ℕ) (xs : List ℕ) → is_in place xs ≡ true → is_in place (x ∷ xs) ≡ true
in_there x place xs h = or_right (eqb x place) (is_in place xs) h

-- a number of a list is its first, or in the rest
pub in_cases : (x place : ℕ) (xs : List ℕ) → is_in place (x ∷ xs) ≡ true → (x ≡ place) ⊎ (is_in place xs ≡ true)
in_cases x place xs h =
    ⊎_elim (λ (e : eqb x place ≡ true). inl (eqb-true x place e))
    (λ (e : eqb x place ≡ false). inr (ap (λ b. b || is_in place xs) (sym e) ∙ h))
    (cases_Bool (eqb x place))

-- where one number is in a list and another isn't, they differ
pub differs : (a b : ℕ) (xs : List ℕ) → is_in a xs ≡ true → is_in b xs ≡ false → b ≡ a → ⊥
differs a b xs there elsewhere e = false≢true (sym elsewhere ∙ ap (λ n. is_in n xs) e ∙ there)

-- and the test tells them apart
pub head_other : (n x : ℕ) (xs : List ℕ) → is_in x xs ≡ false → is_in n xs ≡ true → eqb x n ≡ false
head_other n x xs none there = ne_eqb x n (differs n x xs there none)

-- a number that isn't in two lists joined is in neither
pub apart_both : (place : ℕ) (xs ys : List ℕ) → is_in place (xs ++ ys) ≡ false → (is_in place xs ≡ false) × (is_in place ys ≡ false)
apart_both place xs ys h = or_parts (is_in place xs) (is_in place ys) (sym (list_any-append (λ x. eqb x place) xs ys) ∙ h)

pub apart_joined : (place : ℕ) (xs ys : List ℕ) → is_in place xs ≡ false → is_in place ys ≡ false → is_in place (xs ++ ys) ≡ false
apart_joined place xs ys h k = list_any-append (λ x. eqb x place) xs ys ∙ or_from (is_in place xs) (is_in place ys) h k

-- a list is split where a number stands
pub split_at : (place : ℕ) (xs : List ℕ) → is_in place xs ≡ true → (prefix : List ℕ) × (rest : List ℕ) × (xs ≡ prefix ++ place ∷ rest)
split_at place [] h = absurd (false≢true h)
split_at place (x ∷ xs) h =
    ⊎_elim (λ (e : x ≡ place). ([], xs, ap (λ n. n ∷ xs) e))
    (λ (i : is_in place xs ≡ true). let s = split_at place xs i in (x ∷ s.0, s.1, ap (λ ys. x ∷ ys) s.2))
    (in_cases x place xs h)

-- a list without a number that isn't in it
pub without_none : (place : ℕ) (xs : List ℕ) → is_in place xs ≡ false → without place xs ≡ xs
without_none place [] h = refl
without_none place (x ∷ xs) h =
    let parts = apart x place xs h in
    cond-true (not (eqb x place)) (x ∷ without place xs) (without place xs) (not_from_false (eqb x place) (ne_eqb x place parts.0))
    ∙ ap (λ ys. x ∷ ys) (without_none place xs parts.1)

-- ---- distinct numbers

-- a number between two lists is in neither, and they are distinct without it
pub distinct_split : (place : ℕ) (prefix rest : List ℕ) → Distinct (prefix ++ place ∷ rest) → (is_in place prefix ≡ false) × (is_in place rest ≡ false) × Distinct (prefix ++ rest)
distinct_split place [] rest d = (refl, d.0, d.1)
distinct_split place (x ∷ prefix) rest d =
    let more = distinct_split place prefix rest d.1 in
    let both = apart_both x prefix (place ∷ rest) d.0 in
    let here = apart place x rest both.1 in
    (apart_from x place prefix (λ e. here.0 (sym e)) more.0, more.1, (apart_joined x prefix rest both.0 here.1, more.2))

-- one number more that isn't among them
pub distinct_push : (xs : List ℕ) (place : ℕ) → Distinct xs → is_in place xs ≡ false → Distinct (xs ++ place ∷ [])
distinct_push [] place d h = (refl, tt)
distinct_push (x ∷ xs) place d h =
    let parts = apart x place xs h in
    (apart_joined x xs (place ∷ []) d.0 (apart_from place x [] (λ e. parts.0 (sym e)) refl), distinct_push xs place d.1 parts.1)

-- a list without one of its distinct numbers
pub without_split : (place : ℕ) (prefix rest : List ℕ) → Distinct (prefix ++ place ∷ rest) → without place (prefix ++ place ∷ rest) ≡ prefix ++ rest
without_split place [] rest d =
    cond-false (not (eqb place place)) (place ∷ without place rest) (without place rest) (not_from_true (eqb place place) (eq-eqb place place refl))
    ∙ without_none place rest d.0
without_split place (x ∷ prefix) rest d =
    let both = apart_both x prefix (place ∷ rest) d.0 in
    let here = apart place x rest both.1 in
    cond-true (not (eqb x place)) (x ∷ without place (prefix ++ place ∷ rest)) (without place (prefix ++ place ∷ rest)) (not_from_false (eqb x place) (ne_eqb x place (λ e. here.0 (sym e))))
    ∙ ap (λ ys. x ∷ ys) (without_split place prefix rest d.1)

-- ---- lists of lists

-- where a number stands in some list, it stands in one of them
pub list_with : (place : ℕ) (lists : List (List ℕ)) → list_any (is_in place) lists ≡ true → (k : ℕ) × (k < length lists) × (is_in place (get_or lists k []) ≡ true)
list_with place [] h = absurd (false≢true h)
list_with place (xs ∷ lists) h =
    ⊎_elim (λ (e : is_in place xs ≡ true). (0, omega arith, e))
    (λ (e : is_in place xs ≡ false). let more = list_with place lists (ap (λ b. b || list_any (is_in place) lists) (sym e) ∙ h) in (suc more.0, omega (arith, more.1), more.2))
    (cases_Bool (is_in place xs))

-- where a number stands in no list, it isn't in any of them
pub in_no_list : (place : ℕ) (lists : List (List ℕ)) (k : ℕ) → list_any (is_in place) lists ≡ false → is_in place (get_or lists k []) ≡ false
in_no_list place [] k h = refl
in_no_list place (xs ∷ lists) zero h = (or_parts (is_in place xs) (list_any (is_in place) lists) h).0
in_no_list place (xs ∷ lists) (suc k) h = in_no_list place lists k (or_parts (is_in place xs) (list_any (is_in place) lists) h).1

-- what is in one of two lists is in both joined
pub in_prefix : (place : ℕ) (xs ys : List ℕ) → is_in place xs ≡ true → is_in place (xs ++ ys) ≡ true
in_prefix place xs ys h = list_any-append (λ x. eqb x place) xs ys ∙ or_left (is_in place xs) (is_in place ys) h

pub in_rest : (place : ℕ) (xs ys : List ℕ) → is_in place ys ≡ true → is_in place (xs ++ ys) ≡ true
in_rest place xs ys h = list_any-append (λ x. eqb x place) xs ys ∙ or_right (is_in place xs) (is_in place ys) h

-- what is in two lists joined is in one of them
pub in_joined : (place : ℕ) (xs ys : List ℕ) → is_in place (xs ++ ys) ≡ true → (is_in place xs ≡ true) ⊎ (is_in place ys ≡ true)
in_joined place xs ys h = or_cases (is_in place xs) (is_in place ys) (sym (list_any-append (λ x. eqb x place) xs ys) ∙ h)

-- what is in a list without one of its distinct numbers is in the list, and isn't that number
in_split : (place : ℕ) (prefix : List ℕ) (p : ℕ) (rest : List ℕ) → Distinct (prefix ++ p ∷ rest) → is_in place (prefix ++ rest) ≡ true → (is_in place (prefix ++ p ∷ rest) ≡ true) × (p ≡ place → ⊥)
in_split place prefix p rest d i =
    let parts = distinct_split p prefix rest d in (
      ⊎_elim (λ (a : is_in place prefix ≡ true). in_prefix place prefix (p ∷ rest) a) (λ (b : is_in place rest ≡ true). in_rest place prefix (p ∷ rest) (in_there p place rest b)) (in_joined place prefix rest i),
      differs place p (prefix ++ rest) i (apart_joined p prefix rest parts.0 parts.1),
    )

-- there are at most n distinct numbers below n
pub distinct_short : (n : ℕ) (xs : List ℕ) → Distinct xs → ((x : ℕ) → is_in x xs ≡ true → x < n) → length xs ≤ n
distinct_short zero [] d below = omega arith
distinct_short zero (x ∷ xs) d below = absurd (omega (arith, below x (in_here x xs)))
distinct_short (suc n) xs d below =
    ⊎_elim
    (λ (i : is_in n xs ≡ true).
    let s = split_at n xs i in
    let distinct : Distinct (s.0 ++ n ∷ s.1) = subst (λ ys. Distinct ys) s.2 d in
    let fewer = distinct_short n (s.0 ++ s.1) (distinct_split n s.0 s.1 distinct).2
    (λ x here. let more = in_split x s.0 n s.1 distinct here in
    let small : x < suc n = below x (ap (is_in x) s.2 ∙ more.0) in
    let other : n ≡ x → ⊥ = more.1 in
    omega arith) in
    omega (arith, fewer, ap length s.2, length-append s.0 (n ∷ s.1), length-append s.0 s.1))
    (λ (none : is_in n xs ≡ false).
    let fewer = distinct_short n xs d (λ x here. let small : x < suc n = below x here in let other : n ≡ x → ⊥ = differs x n xs here none in omega arith) in
    omega (arith, fewer))
    (cases_Bool (is_in n xs))

-- ---- without a number

-- the number isn't left in a list
pub without_same : (p : ℕ) (xs : List ℕ) → is_in p (without p xs) ≡ false
without_same p [] = refl
without_same p (x ∷ xs) =
    ⊎_elim
    (λ (e : eqb x p ≡ true). ap (is_in p) (cond-false (not (eqb x p)) (x ∷ without p xs) (without p xs) (not_from_true (eqb x p) e)) ∙ without_same p xs)
    (λ (e : eqb x p ≡ false). ap (is_in p) (cond-true (not (eqb x p)) (x ∷ without p xs) (without p xs) (not_from_false (eqb x p) e)) ∙ or_from (eqb x p) (is_in p (without p xs)) e (without_same p xs))
    (cases_Bool (eqb x p))

-- the others are
pub without_other : (p q : ℕ) (xs : List ℕ) → (q ≡ p → ⊥) → is_in q (without p xs) ≡ is_in q xs
without_other p q [] ne = refl
without_other p q (x ∷ xs) ne =
    ⊎_elim
    (λ (e : eqb x p ≡ true).
    ap (is_in q) (cond-false (not (eqb x p)) (x ∷ without p xs) (without p xs) (not_from_true (eqb x p) e)) ∙ without_other p q xs ne
    ∙ sym (ap (λ b. b || is_in q xs) (ne_eqb x q (λ s. ne (sym s ∙ eqb-true x p e)))))
    (λ (e : eqb x p ≡ false).
    ap (is_in q) (cond-true (not (eqb x p)) (x ∷ without p xs) (without p xs) (not_from_false (eqb x p) e)) ∙ ap (λ b. eqb x q || b) (without_other p q xs ne))
    (cases_Bool (eqb x p))

-- it is left in no list
pub nowhere_without : (p : ℕ) (lists : List (List ℕ)) → list_any (is_in p) (map (without p) lists) ≡ false
nowhere_without p [] = refl
nowhere_without p (xs ∷ lists) = or_from (is_in p (without p xs)) (list_any (is_in p) (map (without p) lists)) (without_same p xs) (nowhere_without p lists)

-- a list in which a number stands is among the lists
pub somewhere : (p : ℕ) (lists : List (List ℕ)) (k : ℕ) → is_in p (get_or lists k []) ≡ true → list_any (is_in p) lists ≡ true
somewhere p [] k i = i
somewhere p (xs ∷ lists) zero i = or_left (is_in p xs) (list_any (is_in p) lists) i
somewhere p (xs ∷ lists) (suc k) i = or_right (is_in p xs) (list_any (is_in p) lists) (somewhere p lists k i)

-- a number that stands in no list and not in another list
pub nowhere_set : (p : ℕ) (lists : List (List ℕ)) (k : ℕ) (xs : List ℕ) → list_any (is_in p) lists ≡ false → is_in p xs ≡ false → list_any (is_in p) (set lists k xs) ≡ false
nowhere_set p [] k xs none h = refl
nowhere_set p (ys ∷ lists) zero xs none h = or_from (is_in p xs) (list_any (is_in p) lists) h (or_parts (is_in p ys) (list_any (is_in p) lists) none).1
nowhere_set p (ys ∷ lists) (suc k) xs none h =
    let parts = or_parts (is_in p ys) (list_any (is_in p) lists) none in
    or_from (is_in p ys) (list_any (is_in p) (set lists k xs)) parts.0 (nowhere_set p lists k xs parts.1 h)

-- no number stands in empty lists
pub nowhere_empty : (p n : ℕ) → list_any (is_in p) (replicate n []) ≡ false
nowhere_empty p zero = refl
nowhere_empty p (suc n) = nowhere_empty p n

-- ---- the numbers below n

-- a number of a range lies in it
pub range_in : (a n x : ℕ) → is_in x (range_with_len a n) ≡ true → (a ≤ x) × (x < a + n)
range_in a zero x i = absurd (false≢true i)
range_in a (suc n) x i =
    ⊎_elim (λ (e : a ≡ x). (omega arith, omega arith))
    (λ (more : is_in x (range_with_len (a + 1) n) ≡ true). let r = range_in (a + 1) n x more in (omega (arith, r.0), omega (arith, r.1)))
    (in_cases a x (range_with_len (a + 1) n) i)

-- and a number that lies in it is one
pub range_has : (a n x : ℕ) → a ≤ x → x < a + n → is_in x (range_with_len a n) ≡ true
range_has a zero x low high = absurd (omega arith)
range_has a (suc n) x low high =
    ⊎_elim (λ (e : a ≡ x). or_left (eqb a x) (is_in x (range_with_len (a + 1) n)) (eq-eqb a x e))
    (λ (ne : a ≡ x → ⊥). in_there a x (range_with_len (a + 1) n) (range_has (a + 1) n x (omega arith) (omega arith)))
    (cases_eq a x)

pub range_past : (n x : ℕ) → n ≤ x → is_in x (range_with_len 0 n) ≡ false
range_past n x past =
    ⊎_elim (λ (i : is_in x (range_with_len 0 n) ≡ true). absurd (omega (arith, (range_in 0 n x i).1)))
    (λ (none : is_in x (range_with_len 0 n) ≡ false). none)
    (cases_Bool (is_in x (range_with_len 0 n)))

-- the number at a place of a list is in it
pub in_got : (xs : List ℕ) (i p : ℕ) → slice_get xs i ≡ Some p → is_in p xs ≡ true
in_got [] i p h = absurd (cc)
in_got (x ∷ xs) zero p h = let e : x ≡ p = cc in or_left (eqb x p) (is_in p xs) (eq-eqb x p e)
in_got (x ∷ xs) (suc i) p h = in_there x p xs (in_got xs i p h)

-- ---- from one number of a list to the next

-- what stands behind the number at a place stands at the next place
pub next_at : (xs : List ℕ) (i p : ℕ) → Distinct xs → slice_get xs i ≡ Some p → next_in p xs ≡ slice_get xs (i + 1)
next_at [] i p d h = absurd (cc)
next_at (x ∷ xs) zero p d h =
    let e : x ≡ p = cc in
    cond-true (eqb x p) (slice_get xs 0) (next_in p xs) (eq-eqb x p e)
next_at (x ∷ xs) (suc i) p d h =
    let there : is_in p xs ≡ true = in_got xs i p h in
    cond-false (eqb x p) (slice_get xs 0) (next_in p xs) (ne_eqb x p (differs p x xs there d.0)) ∙ next_at xs i p d.1 h
    ∙ (let later : suc (i + 1) ≡ suc i + 1 = omega arith in ap (slice_get (x ∷ xs)) later)
