-- What is gathered along numbered elements.
use Rattle.std.proofs.Common.{◌≡◌, ℕ, zero, suc, ◌+◌, ◌≤◌, Bool, true, false, cond, ◌||◌, List, [], ◌∷◌, ◌++◌, length, length-append, map, flat_map, count_by, Option, Some, None, refl, sym, ap, subst, ◌∙◌, arith}
use Rattle.std.specs.Prelude.{slice_get, find}
use Rattle.std.specs.Option.{option_or}
use Rattle.std.specs.List.{list_any, list_all, enumerate_from, range_with_len, sum_by}
use Rattle.std.proofs.Math.Bool.{or-false}
use Rattle.std.proofs.lemmas.Bool.{or_left, or_right}
use Rattle.std.proofs.lemmas.Option.{same_Some}
use Rattle.std.proofs.lemmas.List.Concat.{flat_map-append}
use Rattle.std.proofs.lemmas.List.Folds.{list_any-append, find-append}
use Rattle.std.proofs.lemmas.List.Sums.{sum_by-cons, sum_by-append}
use Rattle.tesla_base.proofs.Lists.{list_all_both}

-- gathering along what is gathered
pub flat_map-flat_map : {A B C : Type 0} (g : B → List C) (f : A → List B) (xs : List A) → flat_map g (flat_map f xs) ≡ flat_map (λ x. flat_map g (f x)) xs
flat_map-flat_map g f [] = refl
flat_map-flat_map g f (x ∷ xs) = flat_map-append g (f x) (flat_map f xs) ∙ ap (λ r. flat_map g (f x) ++ r) (flat_map-flat_map g f xs)

-- functions that agree on each numbered element
pub gathered_same : {A B : Type 0} (f g : ℕ × A → List B) (m : ℕ) (xs : List A) → ((k : ℕ) (x : A) → slice_get xs k ≡ Some x → f (m + k, x) ≡ g (m + k, x)) → flat_map f (enumerate_from m xs) ≡ flat_map g (enumerate_from m xs)
gathered_same f g m [] same = refl
gathered_same f g m (x ∷ xs) same =
    let first : m + 0 ≡ m = omega arith in
    let here : f (m, x) ≡ g (m, x) = subst (λ (n : ℕ). f (n, x) ≡ g (n, x)) first (same 0 x refl) in
    let next : (k : ℕ) → m + suc k ≡ m + 1 + k = λ k. omega arith in
    ap (λ r. r ++ flat_map f (enumerate_from (m + 1) xs)) here
    ∙ ap (λ r. g (m, x) ++ r) (gathered_same f g (m + 1) xs (λ k y at. subst (λ (n : ℕ). f (n, y) ≡ g (n, y)) (next k) (same (suc k) y at)))

-- a function of each number and of what stands there
pub map_numbered : {A B : Type 0} (g : ℕ × A → B) (f : ℕ → A) (a n : ℕ) → map g (enumerate_from a (map f (range_with_len a n))) ≡ map (λ c. g (c, f c)) (range_with_len a n)
map_numbered g f a zero = refl
map_numbered g f a (suc n) = ap (λ ys. g (a, f a) ∷ ys) (map_numbered g f (a + 1) n)

-- ---- what all of them give

-- all that the numbered elements give passes, where all that each gives does
pub all_enumerated : {A B : Type 0} (q : B → Bool) (f : ℕ × A → List B) (n : ℕ) (xs : List A) → ((k : ℕ) (x : A) → slice_get xs k ≡ Some x → list_all q (f (n + k, x)) ≡ true) → list_all q (flat_map f (enumerate_from n xs)) ≡ true
all_enumerated q f n [] h = refl
all_enumerated q f n (x ∷ xs) h =
    let first : n ≡ n + 0 = omega arith in
    let here : list_all q (f (n, x)) ≡ true = ap (λ k. list_all q (f (k, x))) first ∙ h 0 x refl in
    let next : (k : ℕ) → n + 1 + k ≡ n + suc k = λ k. omega arith in
    let later = all_enumerated q f (n + 1) xs (λ k y e. ap (λ m. list_all q (f (m, y))) (next k) ∙ h (suc k) y e) in
    list_all_both q (f (n, x)) (flat_map f (enumerate_from (n + 1) xs)) here later

-- what is so of the elements of two lists is so of those of both
each_append : {A : Type 0} (P : A → Type 0) (xs ys : List A) → ((i : ℕ) (x : A) → slice_get xs i ≡ Some x → P x) → ((i : ℕ) (y : A) → slice_get ys i ≡ Some y → P y) → (i : ℕ) (x : A) → slice_get (xs ++ ys) i ≡ Some x → P x
each_append P [] ys first second i x at = second i x at
each_append P (z ∷ xs) ys first second zero x at = first 0 x at
each_append P (z ∷ xs) ys first second (suc i) x at = each_append P xs ys (λ j y there. first (suc j) y there) second i x at

-- what is so of all that each numbered element gives
pub each_gathered : {A B : Type 0} (P : B → Type 0) (f : ℕ × A → List B) (m : ℕ) (xs : List A) → ((k : ℕ) (x : A) → slice_get xs k ≡ Some x → (i : ℕ) (b : B) → slice_get (f (m + k, x)) i ≡ Some b → P b) → (i : ℕ) (b : B) → slice_get (flat_map f (enumerate_from m xs)) i ≡ Some b → P b
each_gathered P f m [] each i b at = absurd (cc)
each_gathered P f m (x ∷ xs) each i b at =
    let first : m ≡ m + 0 = omega arith in
    let next : (k : ℕ) → m + 1 + k ≡ m + suc k = λ k. omega arith in
    each_append P (f (m, x)) (flat_map f (enumerate_from (m + 1) xs))
    (λ j y there. each 0 x refl j y (ap (λ (n : ℕ). slice_get (f (n, x)) j) (sym first) ∙ there))
    (each_gathered P f (m + 1) xs (λ k y there j c here. each (suc k) y there j c (ap (λ (n : ℕ). slice_get (f (n, y)) j) (sym (next k)) ∙ here)))
    i b at

-- ---- what one of them gives

-- one that passes
pub any_from : {A B : Type 0} (q : B → Bool) (f : ℕ × A → List B) (m : ℕ) (xs : List A) (k : ℕ) (x : A) → slice_get xs k ≡ Some x → list_any q (f (m + k, x)) ≡ true → list_any q (flat_map f (enumerate_from m xs)) ≡ true
any_from q f m [] k x at h = absurd (cc)
any_from q f m (y ∷ xs) zero x at h =
    let first : m + 0 ≡ m = omega arith in
    let same : y ≡ x = same_Some y x at in
    let here : list_any q (f (m, y)) ≡ true = ap (λ z. list_any q (f (m, z))) same ∙ ap (λ (n : ℕ). list_any q (f (n, x))) (sym first) ∙ h in
    list_any-append q (f (m, y)) (flat_map f (enumerate_from (m + 1) xs)) ∙ or_left (list_any q (f (m, y))) (list_any q (flat_map f (enumerate_from (m + 1) xs))) here
any_from q f m (y ∷ xs) (suc k) x at h =
    let next : m + 1 + k ≡ m + suc k = omega arith in
    list_any-append q (f (m, y)) (flat_map f (enumerate_from (m + 1) xs))
    ∙ or_right (list_any q (f (m, y))) (list_any q (flat_map f (enumerate_from (m + 1) xs))) (any_from q f (m + 1) xs k x at (ap (λ (n : ℕ). list_any q (f (n, x))) next ∙ h))

none_after : {A B : Type 0} (q : B → Bool) (f : ℕ × A → List B) (m : ℕ) (xs : List A) → ((j : ℕ) (y : A) → m ≤ j → list_any q (f (j, y)) ≡ false) → list_any q (flat_map f (enumerate_from m xs)) ≡ false
none_after q f m [] none = refl
none_after q f m (x ∷ xs) none =
    list_any-append q (f (m, x)) (flat_map f (enumerate_from (m + 1) xs)) ∙ ap (λ b. b || list_any q (flat_map f (enumerate_from (m + 1) xs))) (none m x (omega arith))
    ∙ none_after q f (m + 1) xs (λ j y h. none j y (omega arith))

-- where no other number gives one that passes
pub any_at : {A B : Type 0} (q : B → Bool) (f : ℕ × A → List B) (m : ℕ) (xs : List A) (k : ℕ) (x : A) → slice_get xs k ≡ Some x → ((j : ℕ) (y : A) → (j ≡ m + k → ⊥) → list_any q (f (j, y)) ≡ false) → list_any q (flat_map f (enumerate_from m xs)) ≡ list_any q (f (m + k, x))
any_at q f m [] k x at none = absurd (cc)
any_at q f m (y ∷ xs) zero x at none =
    let first : m ≡ m + 0 = omega arith in
    list_any-append q (f (m, y)) (flat_map f (enumerate_from (m + 1) xs))
    ∙ ap (λ b. list_any q (f (m, y)) || b) (none_after q f (m + 1) xs (λ j z h. none j z (λ e. omega (arith, e, h)))) ∙ or-false (list_any q (f (m, y)))
    ∙ ap (λ z. list_any q (f (m, z))) (same_Some y x at) ∙ ap (λ (n : ℕ). list_any q (f (n, x))) first
any_at q f m (y ∷ xs) (suc k) x at none =
    let next : m + 1 + k ≡ m + suc k = omega arith in
    list_any-append q (f (m, y)) (flat_map f (enumerate_from (m + 1) xs)) ∙ ap (λ b. b || list_any q (flat_map f (enumerate_from (m + 1) xs))) (none m y (λ e. omega (arith, e)))
    ∙ any_at q f (m + 1) xs k x at (λ j z other. none j z (λ e. other (omega (arith, e)))) ∙ ap (λ (n : ℕ). list_any q (f (n, x))) next

-- ---- the first that passes

or_none : {A : Type 0} (o : Option A) → option_or o None ≡ o
or_none None = refl
or_none (Some x) = refl

find_after : {A B : Type 0} (q : B → Bool) (f : ℕ × A → List B) (m : ℕ) (xs : List A) → ((j : ℕ) (y : A) → m ≤ j → find q (f (j, y)) ≡ None) → find q (flat_map f (enumerate_from m xs)) ≡ None
find_after q f m [] none = refl
find_after q f m (x ∷ xs) none =
    find-append q (f (m, x)) (flat_map f (enumerate_from (m + 1) xs)) ∙ ap (λ o. option_or o (find q (flat_map f (enumerate_from (m + 1) xs)))) (none m x (omega arith))
    ∙ find_after q f (m + 1) xs (λ j y h. none j y (omega arith))

-- where no other number gives one that passes
pub find_at : {A B : Type 0} (q : B → Bool) (f : ℕ × A → List B) (m : ℕ) (xs : List A) (k : ℕ) (x : A) → slice_get xs k ≡ Some x → ((j : ℕ) (y : A) → (j ≡ m + k → ⊥) → find q (f (j, y)) ≡ None) → find q (flat_map f (enumerate_from m xs)) ≡ find q (f (m + k, x))
find_at q f m [] k x at none = absurd (cc)
find_at q f m (y ∷ xs) zero x at none =
    let first : m ≡ m + 0 = omega arith in
    find-append q (f (m, y)) (flat_map f (enumerate_from (m + 1) xs))
    ∙ ap (option_or (find q (f (m, y)))) (find_after q f (m + 1) xs (λ j z h. none j z (λ e. omega (arith, e, h)))) ∙ or_none (find q (f (m, y)))
    ∙ ap (λ z. find q (f (m, z))) (same_Some y x at) ∙ ap (λ (n : ℕ). find q (f (n, x))) first
find_at q f m (y ∷ xs) (suc k) x at none =
    let next : m + 1 + k ≡ m + suc k = omega arith in
    find-append q (f (m, y)) (flat_map f (enumerate_from (m + 1) xs)) ∙ ap (λ o. option_or o (find q (flat_map f (enumerate_from (m + 1) xs)))) (none m y (λ e. omega (arith, e)))
    ∙ find_at q f (m + 1) xs k x at (λ j z other. none j z (λ e. other (omega (arith, e)))) ∙ ap (λ (n : ℕ). find q (f (n, x))) next

-- ---- how many, and sums

one_fewer : (a b : Bool) → (a ≡ true → b ≡ true) → cond a 1 0 ≤ cond b 1 0
one_fewer true b h = let yes = h refl in rw yes (omega arith)
one_fewer false b h = omega arith

-- no more numbered elements pass a test than pass a weaker one
pub count_fewer : {A : Type 0} (p q : ℕ × A → Bool) (n : ℕ) (xs : List A) → ((k : ℕ) (x : A) → slice_get xs k ≡ Some x → p (n + k, x) ≡ true → q (n + k, x) ≡ true) → count_by p (enumerate_from n xs) ≤ count_by q (enumerate_from n xs)
count_fewer p q n [] h = omega arith
count_fewer p q n (x ∷ xs) h =
    let first : n + 0 ≡ n = omega arith in
    let here : cond (p (n, x)) 1 0 ≤ cond (q (n, x)) 1 0 = one_fewer (p (n, x)) (q (n, x)) (subst (λ (m : ℕ). p (m, x) ≡ true → q (m, x) ≡ true) first (h 0 x refl)) in
    let next : (k : ℕ) → n + suc k ≡ n + 1 + k = λ k. omega arith in
    let later = count_fewer p q (n + 1) xs (λ k y e. subst (λ (m : ℕ). p (m, y) ≡ true → q (m, y) ≡ true) (next k) (h (suc k) y e)) in
    omega (arith, here, later, sum_by-cons (λ z. cond (p z) 1 0) (n, x) (enumerate_from (n + 1) xs), sum_by-cons (λ z. cond (q z) 1 0) (n, x) (enumerate_from (n + 1) xs))

-- where each gives one at most
pub gathered_fewer : {A B : Type 0} (f : ℕ × A → List B) (m : ℕ) (xs : List A) → ((n : ℕ) (x : A) → length (f (n, x)) ≤ 1) → length (flat_map f (enumerate_from m xs)) ≤ length xs
gathered_fewer f m [] few = omega arith
gathered_fewer f m (x ∷ xs) few =
    let here = few m x in
    let rest = gathered_fewer f (m + 1) xs few in
    omega (arith, here, rest, length-append (f (m, x)) (flat_map f (enumerate_from (m + 1) xs)))

-- what is summed along what numbered elements give
pub sum_gathered : {A B : Type 0} (g : B → ℕ) (f : ℕ × A → List B) (t : ℕ × A → ℕ) (m : ℕ) (xs : List A) → ((n : ℕ) (x : A) → sum_by g (f (n, x)) ≡ t (n, x)) → sum_by g (flat_map f (enumerate_from m xs)) ≡ sum_by t (enumerate_from m xs)
sum_gathered g f t m [] each = refl
sum_gathered g f t m (x ∷ xs) each =
    sum_by-append g (f (m, x)) (flat_map f (enumerate_from (m + 1) xs)) ∙ ap (λ n. n + sum_by g (flat_map f (enumerate_from (m + 1) xs))) (each m x)
    ∙ ap (λ n. t (m, x) + n) (sum_gathered g f t (m + 1) xs each) ∙ sym (sum_by-cons t (m, x) (enumerate_from (m + 1) xs))
