-- Lists of any elements: places, numbered elements, searches, tests and fronts, beside what the lemmas of std say.
use Rattle.std.proofs.Common.{◌≡◌, ℕ, zero, suc, ◌+◌, ◌-◌, ◌<◌, ◌≤◌, Bool, true, false, cond, ◌||◌, List, [], ◌∷◌, ◌++◌, length, get_or, take, drop, map, replicate, Option, Some, None, refl, sym, ap, ◌∙◌, arith, add-one, add-zero, count_by}
use Rattle.std.specs.Prelude.{eqb, find, option_map, slice_get}
use Rattle.std.specs.List.{enumerate_from, flat_map, list_all, list_any, range_with_len}
use Rattle.std.proofs.Math.ListN.{set}
use Rattle.std.proofs.Math.Seq.{take-add}
use Rattle.std.proofs.Math.Bool.{or-false}
use Rattle.std.proofs.lemmas.Bool.{and_from, and_parts, eq-eqb, ne_eqb, or_right}
use Rattle.std.proofs.lemmas.List.{append-nil, drop-append-le, drop-drop, drop-take, drop_at, flat_map_more, length-drop, length-take, length-take-le, take-append-le, take_all, take_at, take_more}
use Rattle.std.proofs.lemmas.List.Concat.{flat_map-append}
use Rattle.std.proofs.lemmas.List.Folds.{list_all-append, list_all_at, list_all_more, list_any-append, list_any_at, list_any_more}
use Rattle.std.proofs.lemmas.List.FromFn.{get_or-enumerate_from, get_or-range_with_len, length-enumerate_from, length-range_with_len}
use Rattle.std.proofs.lemmas.List.Sums.{sum_by_push}
use Rattle.std.proofs.lemmas.Option.{get_or_from_slice_get, slice_get_within}
use borrow.Rule.Slice.PartMut.{put_mid, post_of}

-- ---- places

-- a list that is not empty has a first element
pub cons_from_length : {A : Type 0} (xs : List A) → 1 ≤ length xs → (first : A) × (rest : List A) × (xs ≡ first ∷ rest)
cons_from_length [] h = absurd (omega arith)
cons_from_length (x ∷ xs) h = (x, xs, refl)

-- an element of the first list stays where it is
pub slice_get-append : {A : Type 0} (xs ys : List A) (i : ℕ) → i < length xs → slice_get (xs ++ ys) i ≡ slice_get xs i
slice_get-append [] ys i h = absurd (omega arith)
slice_get-append (x ∷ xs) ys zero h = refl
slice_get-append (x ∷ xs) ys (suc i) h = slice_get-append xs ys i (omega arith)

-- a function of the element at a place, read with a default
pub get_or_from_option_map : {A B : Type 0} (f : A → B) (xs : List A) (i : ℕ) (d : A) (y : B) → option_map f (slice_get xs i) ≡ Some y → f (get_or xs i d) ≡ y
get_or_from_option_map f [] i d y h = absurd (cc)
get_or_from_option_map f (x ∷ xs) zero d y h = cc
get_or_from_option_map f (x ∷ xs) (suc i) d y h = get_or_from_option_map f xs i d y h

-- where a function of the element at a place is known, the place is within
pub within_from_option_map : {A B : Type 0} (f : A → B) (xs : List A) (i : ℕ) (y : B) → option_map f (slice_get xs i) ≡ Some y → i < length xs
within_from_option_map f [] i y h = absurd (cc)
within_from_option_map f (x ∷ xs) zero y h = omega arith
within_from_option_map f (x ∷ xs) (suc i) y h = let rest : i < length xs = within_from_option_map f xs i y h in omega arith

-- ---- fronts and parts

-- a front that is longer than the first list
pub take-append-ge : {A : Type 0} (n : ℕ) (xs ys : List A) → length xs ≤ n → take n (xs ++ ys) ≡ xs ++ take (n - length xs) ys
take-append-ge n xs ys h =
    let sum : n ≡ length xs + (n - length xs) = omega arith in
    ap (λ k. take k (xs ++ ys)) sum ∙ take-add (length xs) (n - length xs) (xs ++ ys)
    ∙ (rw (take_at xs ys (length xs) refl, drop_at xs ys (length xs) refl) refl)

-- the part from one place to another, without its first elements
pub drop_part : {A : Type 0} (xs : List A) (from until n : ℕ) → from + n ≤ until → drop n (take (until - from) (drop from xs)) ≡ take (until - (from + n)) (drop (from + n) xs)
drop_part xs from until n inside =
    let parts : until - from ≡ n + (until - (from + n)) = omega arith in
    ap (λ j. drop n (take j (drop from xs))) parts ∙ drop-take n (until - (from + n)) (drop from xs)
    ∙ ap (take (until - (from + n))) (drop-drop n from xs)

-- the part from one place to another, with what was put behind it
pub part_put_behind : {A : Type 0} (xs ys : List A) (from until k n : ℕ) → from ≤ until → until ≤ length xs → n ≤ length ys → take (until + n - from) (drop from (put_mid until k xs ys)) ≡ take (until - from) (drop from xs) ++ take n ys
part_put_behind xs ys from until k n ordered within fits =
    let prefix = length-take-le until xs within in
    let held = drop from (take until xs) in
    let size : length held ≡ until - from = omega (arith, length-drop from (take until xs)) in
    let sum : until + n - from ≡ (until - from) + n = omega arith in
    let parts : until ≡ from + (until - from) = omega arith in
    let same : held ≡ take (until - from) (drop from xs) = ap (λ j. drop from (take j xs)) parts ∙ drop-take from (until - from) xs in
    let behind = ys ++ post_of until k xs in
    ap (take (until + n - from)) (drop-append-le from (take until xs) behind (omega arith))
    ∙ ap (λ j. take j (held ++ behind)) sum ∙ take-add (until - from) n (held ++ behind)
    ∙ (rw (take_at held behind _ size, drop_at held behind _ size, take-append-le n ys (post_of until k xs) fits, same) refl)

-- an element of a front
pub taken_at : {A : Type 0} (xs : List A) (i n : ℕ) → i < n → slice_get (take n xs) i ≡ slice_get xs i
taken_at xs i zero less = absurd (omega arith)
taken_at [] i (suc n) less = refl
taken_at (x ∷ xs) zero (suc n) less = refl
taken_at (x ∷ xs) (suc i) (suc n) less = taken_at xs i n (omega arith)

-- an element of the rest
pub from_drop : {A : Type 0} (xs : List A) (n k : ℕ) → slice_get (drop n xs) k ≡ slice_get xs (n + k)
from_drop [] zero k = refl
from_drop [] (suc n) k = refl
from_drop (x ∷ xs) zero k = ap (slice_get (x ∷ xs)) (let count : k ≡ 0 + k = omega arith in count)
from_drop (x ∷ xs) (suc n) k = from_drop xs n k ∙ ap (slice_get (x ∷ xs)) (let count : suc (n + k) ≡ suc n + k = omega arith in count)

-- what is behind the first of a rest
pub drop_suc : {A : Type 0} (xs : List A) (n : ℕ) (x : A) (rest : List A) → drop n xs ≡ x ∷ rest → drop (suc n) xs ≡ rest
drop_suc [] zero x rest h = absurd (cc)
drop_suc [] (suc n) x rest h = absurd (cc)
drop_suc (y ∷ xs) zero x rest h = cc
drop_suc (y ∷ xs) (suc n) x rest h = drop_suc xs n x rest h

pub drop_next : {A : Type 0} (xs : List A) (n : ℕ) (x : A) (rest : List A) → drop n xs ≡ x ∷ rest → drop (n + 1) xs ≡ rest
drop_next xs n x rest h = ap (λ (m : ℕ). drop m xs) (add-one n) ∙ drop_suc xs n x rest h

-- the first, if there is one
abbrev pub first_in : {A : Type 0} → List A → Option A
first_in [] = None
first_in (x ∷ xs) = Some x

-- the element at a place is the first of the rest from there
pub next_first : {A : Type 0} (xs : List A) (n : ℕ) → slice_get xs n ≡ first_in (drop n xs)
next_first [] zero = refl
next_first [] (suc n) = refl
next_first (x ∷ xs) zero = refl
next_first (x ∷ xs) (suc n) = next_first xs n

-- so many copies are one and the others
pub replicate_first : {A : Type 0} (x : A) (n i : ℕ) → i < n → replicate (n - i) x ≡ x ∷ replicate (n - (i + 1)) x
replicate_first x n i below = let count : n - i ≡ suc (n - (i + 1)) = omega arith in ap (λ k. replicate k x) count

-- no copy is left
pub replicate_past : {A : Type 0} (x : A) (n i : ℕ) → n ≤ i → replicate (n - i) x ≡ []
replicate_past x n i past = let count : n - i ≡ 0 = omega arith in ap (λ k. replicate k x) count

-- ---- functions of each element

-- functions that agree give the same list
pub map_same : {A B : Type 0} (f g : A → B) (xs : List A) → ((x : A) → f x ≡ g x) → map f xs ≡ map g xs
map_same f g [] h = refl
map_same f g (x ∷ xs) h = ap (λ y. y ∷ map f xs) (h x) ∙ ap (λ ys. g x ∷ ys) (map_same f g xs h)

-- what is gathered along a list with one element more, behind a front
pub flat_map_got_more : {A B : Type 0} (f : A → List B) (before : List B) (xs : List A) (i : ℕ) (x : A) → slice_get xs i ≡ Some x → (before ++ flat_map f (take i xs)) ++ f x ≡ before ++ flat_map f (take (i + 1) xs)
flat_map_got_more f before xs i x h =
    let at : get_or xs i x ≡ x = get_or_from_slice_get xs i x x h in
    let further : take (i + 1) xs ≡ take i xs ++ x ∷ [] = take_more xs i x (slice_get_within xs i x h) ∙ ap (λ y. take i xs ++ y ∷ []) at in
    flat_map_more f before (take i xs) x ∙ ap (λ ys. before ++ flat_map f ys) (sym further)

-- a number below all of these is none of them
none_below : (f : ℕ → Bool) (j a n : ℕ) → j < a → map (λ k. f k || eqb j k) (range_with_len a n) ≡ map f (range_with_len a n)
none_below f j a zero h = refl
none_below f j a (suc n) h =
    ap (λ b. b ∷ map (λ k. f k || eqb j k) (range_with_len (a + 1) n)) (ap (λ b. f a || b) (ne_eqb j a (omega arith)) ∙ or-false (f a))
    ∙ ap (λ ys. f a ∷ ys) (none_below f j (a + 1) n (omega arith))

-- a test that one number more passes
pub map_number_set : (f : ℕ → Bool) (a i n : ℕ) → map (λ k. f k || eqb (a + i) k) (range_with_len a n) ≡ set (map f (range_with_len a n)) i true
map_number_set f a i zero = refl
map_number_set f a zero (suc n) =
    ap (λ j. map (λ k. f k || eqb j k) (range_with_len a (suc n))) (add-zero a)
    ∙ ap (λ b. b ∷ map (λ k. f k || eqb a k) (range_with_len (a + 1) n)) (or_right (f a) (eqb a a) (eq-eqb a a refl))
    ∙ ap (λ ys. true ∷ ys) (none_below f a (a + 1) n (omega arith))
map_number_set f a (suc i) (suc n) =
    ap (λ b. b ∷ map (λ k. f k || eqb (a + suc i) k) (range_with_len (a + 1) n)) (ap (λ b. f a || b) (ne_eqb (a + suc i) a (omega arith)) ∙ or-false (f a))
    ∙ ap (λ ys. f a ∷ ys) (map_same (λ k. f k || eqb (a + suc i) k) (λ k. f k || eqb (a + 1 + i) k) (range_with_len (a + 1) n) (λ k. ap (λ j. f k || eqb j k) (omega arith)) ∙ map_number_set f (a + 1) i n)

-- ---- numbered elements

-- two lists numbered one after the other
pub enumerate_from-append : {A : Type 0} (n : ℕ) (xs ys : List A) → enumerate_from n (xs ++ ys) ≡ enumerate_from n xs ++ enumerate_from (n + length xs) ys
enumerate_from-append n [] ys = ap (λ k. enumerate_from k ys) (omega arith)
enumerate_from-append n (x ∷ xs) ys =
    ap (λ r. (n, x) ∷ r) (enumerate_from-append (n + 1) xs ys ∙ ap (λ k. enumerate_from (n + 1) xs ++ enumerate_from k ys) (omega arith))

-- one numbered element more
pub enumerate_from_more : {A : Type 0} (xs : List A) (i : ℕ) (d : A) → i < length xs → enumerate_from 0 (take (i + 1) xs) ≡ enumerate_from 0 (take i xs) ++ (i, get_or xs i d) ∷ []
enumerate_from_more xs i d h =
    let long : 0 + length (take i xs) ≡ i = omega (arith, length-take i xs) in
    ap (enumerate_from 0) (take_more xs i d h) ∙ enumerate_from-append 0 (take i xs) (get_or xs i d ∷ [])
    ∙ ap (λ k. enumerate_from 0 (take i xs) ++ (k, get_or xs i d) ∷ []) long

-- what is gathered along numbered elements with one more
pub flat_map_numbered_more : {A B : Type 0} (f : ℕ × A → List B) (xs : List A) (i : ℕ) (d : A) → i < length xs → flat_map f (enumerate_from 0 (take (i + 1) xs)) ≡ flat_map f (enumerate_from 0 (take i xs)) ++ f (i, get_or xs i d)
flat_map_numbered_more f xs i d h =
    ap (flat_map f) (enumerate_from_more xs i d h) ∙ flat_map-append f (enumerate_from 0 (take i xs)) ((i, get_or xs i d) ∷ [])
    ∙ ap (λ r. flat_map f (enumerate_from 0 (take i xs)) ++ r) (append-nil (f (i, get_or xs i d)))

-- how many numbered elements pass, with one more
pub count_by_numbered_more : {A : Type 0} (p : ℕ × A → Bool) (xs : List A) (i : ℕ) (d : A) → i < length xs → count_by p (enumerate_from 0 (take (i + 1) xs)) ≡ count_by p (enumerate_from 0 (take i xs)) + cond (p (i, get_or xs i d)) 1 0
count_by_numbered_more p xs i d h =
    ap (count_by p) (enumerate_from_more xs i d h) ∙ sum_by_push (λ q. cond (p q) 1 0) (enumerate_from 0 (take i xs)) (i, get_or xs i d)

-- whether a numbered element passes, with one more
pub list_any_numbered_more : {A : Type 0} (p : ℕ × A → Bool) (xs : List A) (i : ℕ) (d : A) → i < length xs → list_any p (enumerate_from 0 (take (i + 1) xs)) ≡ (list_any p (enumerate_from 0 (take i xs)) || p (i, get_or xs i d))
list_any_numbered_more p xs i d h =
    ap (list_any p) (enumerate_from_more xs i d h) ∙ list_any-append p (enumerate_from 0 (take i xs)) ((i, get_or xs i d) ∷ [])
    ∙ ap (λ b. list_any p (enumerate_from 0 (take i xs)) || b) (or-false (p (i, get_or xs i d)))

-- a numbered element that passes
pub list_any_numbered : {A : Type 0} (p : ℕ × A → Bool) (xs : List A) (i : ℕ) (d : A) → i < length xs → p (i, get_or xs i d) ≡ true → list_any p (enumerate_from 0 xs) ≡ true
list_any_numbered p xs i d h e =
    let place : 0 + i ≡ i = omega arith in
    let at : get_or (enumerate_from 0 xs) i (0, d) ≡ (i, get_or xs i d) = get_or-enumerate_from 0 xs i (0, d) h ∙ ap (λ k. (k, get_or xs i d)) place in
    list_any_at p (enumerate_from 0 xs) i (0, d) (omega (arith, length-enumerate_from 0 xs)) (ap p at ∙ e)

-- ---- tests of all and of some

-- all of two lists pass
pub list_all_both : {A : Type 0} (p : A → Bool) (xs ys : List A) → list_all p xs ≡ true → list_all p ys ≡ true → list_all p (xs ++ ys) ≡ true
list_all_both p xs ys h k = list_all-append p xs ys ∙ and_from (list_all p xs) (list_all p ys) h k

-- what passes one test passes another
pub list_all_weaker : {A : Type 0} (p q : A → Bool) (xs : List A) → ((x : A) → p x ≡ true → q x ≡ true) → list_all p xs ≡ true → list_all q xs ≡ true
list_all_weaker p q [] weaker h = refl
list_all_weaker p q (x ∷ xs) weaker h =
    let parts = and_parts (p x) (list_all p xs) h in
    and_from (q x) (list_all q xs) (weaker x parts.0) (list_all_weaker p q xs weaker parts.1)

-- all of a front pass where all do
pub list_all-take : {A : Type 0} (p : A → Bool) (n : ℕ) (xs : List A) → list_all p xs ≡ true → list_all p (take n xs) ≡ true
list_all-take p zero xs h = refl
list_all-take p (suc n) [] h = refl
list_all-take p (suc n) (x ∷ xs) h =
    let parts = and_parts (p x) (list_all p xs) h in
    and_from (p x) (list_all p (take n xs)) parts.0 (list_all-take p n xs parts.1)

-- an element that passes
pub list_any_got : {A : Type 0} (p : A → Bool) (xs : List A) (i : ℕ) (x : A) → slice_get xs i ≡ Some x → p x ≡ true → list_any p xs ≡ true
list_any_got p xs i x h e = list_any_at p xs i x (slice_get_within xs i x h) (ap p (get_or_from_slice_get xs i x x h) ∙ e)

-- one element more that doesn't pass
pub list_any_got_more : {A : Type 0} (p : A → Bool) (xs : List A) (i : ℕ) (x : A) → slice_get xs i ≡ Some x → list_any p (take i xs) ≡ false → p x ≡ false → list_any p (take (i + 1) xs) ≡ false
list_any_got_more p xs i x h none e =
    let here : get_or xs i x ≡ x = get_or_from_slice_get xs i x x h in
    list_any_more p xs i x (slice_get_within xs i x h) ∙ rw (none, here) e

-- ---- the first that passes

-- the first element that passes, where none before it does
pub find_here : {A : Type 0} (p : A → Bool) (xs : List A) (i : ℕ) (d : A) → i < length xs → find p (take i xs) ≡ None → p (get_or xs i d) ≡ true → find p xs ≡ Some (get_or xs i d)
find_here p [] i d h n e = absurd (omega arith)
find_here p (x ∷ xs) zero d h n e = rw e
find_here p (x ∷ xs) (suc i) d h n e =
    elim (p x) as (λ b. cond b (Some x) (find p (take i xs)) ≡ None → cond b (Some x) (find p xs) ≡ Some (get_or xs i d)) [
      | true ↦ λ m. absurd (cc)
      | false ↦ λ m. find_here p xs i d (omega arith) m e
    ] n

find_none_suc : {A : Type 0} (p : A → Bool) (xs : List A) (i : ℕ) (d : A) → i < length xs → find p (take i xs) ≡ None → p (get_or xs i d) ≡ false → find p (take (suc i) xs) ≡ None
find_none_suc p [] i d h n e = absurd (omega arith)
find_none_suc p (x ∷ xs) zero d h n e = rw e
find_none_suc p (x ∷ xs) (suc i) d h n e =
    elim (p x) as (λ b. cond b (Some x) (find p (take i xs)) ≡ None → cond b (Some x) (find p (take (suc i) xs)) ≡ None) [
      | true ↦ λ m. absurd (cc)
      | false ↦ λ m. find_none_suc p xs i d (omega arith) m e
    ] n

-- one element more that doesn't pass
pub find_none_more : {A : Type 0} (p : A → Bool) (xs : List A) (i : ℕ) (d : A) → i < length xs → find p (take i xs) ≡ None → p (get_or xs i d) ≡ false → find p (take (i + 1) xs) ≡ None
find_none_more p xs i d h n e = rw add-one (find_none_suc p xs i d h n e)

-- ---- the numbers below n

-- each number stands at its own place
number_at : (n i : ℕ) → i < n → get_or (range_with_len 0 n) i 0 ≡ i
number_at n i h = get_or-range_with_len 0 n i 0 h ∙ omega arith

number_within : (n i : ℕ) → i < n → i < length (range_with_len 0 n)
number_within n i h = omega (arith, length-range_with_len 0 n)

-- a front that has all numbers
take_numbers : (n i : ℕ) → n ≤ i → take i (range_with_len 0 n) ≡ range_with_len 0 n
take_numbers n i h = take_all i (range_with_len 0 n) (omega (arith, length-range_with_len 0 n))

-- the first number that passes
pub find_number : (p : ℕ → Bool) (n i : ℕ) → i < n → find p (take i (range_with_len 0 n)) ≡ None → p i ≡ true → find p (range_with_len 0 n) ≡ Some i
find_number p n i h none e = find_here p (range_with_len 0 n) i 0 (number_within n i h) none (rw (number_at n i h) e) ∙ ap Some (number_at n i h)

-- one number more that doesn't pass
pub find_no_number_more : (p : ℕ → Bool) (n i : ℕ) → i < n → find p (take i (range_with_len 0 n)) ≡ None → p i ≡ false → find p (take (i + 1) (range_with_len 0 n)) ≡ None
find_no_number_more p n i h none e = find_none_more p (range_with_len 0 n) i 0 (number_within n i h) none (rw (number_at n i h) e)

-- no number passes
pub find_no_number : (p : ℕ → Bool) (n i : ℕ) → n ≤ i → find p (take i (range_with_len 0 n)) ≡ None → find p (range_with_len 0 n) ≡ None
find_no_number p n i h none = rw (take_numbers n i h) at none

-- a number that doesn't pass
pub not_all_numbers : (p : ℕ → Bool) (n i : ℕ) → i < n → p i ≡ false → list_all p (range_with_len 0 n) ≡ false
not_all_numbers p n i h e = list_all_at p (range_with_len 0 n) i 0 (number_within n i h) (rw (number_at n i h) e)

-- one number more that passes
pub all_numbers_more : (p : ℕ → Bool) (n i : ℕ) → i < n → list_all p (take i (range_with_len 0 n)) ≡ true → p i ≡ true → list_all p (take (i + 1) (range_with_len 0 n)) ≡ true
all_numbers_more p n i h all e = list_all_more p (range_with_len 0 n) i 0 (number_within n i h) ∙ rw (all, number_at n i h) e

-- all numbers pass
pub all_numbers : (p : ℕ → Bool) (n i : ℕ) → n ≤ i → list_all p (take i (range_with_len 0 n)) ≡ true → list_all p (range_with_len 0 n) ≡ true
all_numbers p n i h all = rw (take_numbers n i h) at all
