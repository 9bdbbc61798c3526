-- Tests and functions that agree on the numbers below n, and what is found among them.
use Rattle.std.proofs.Common.{◌≡◌, ℕ, zero, suc, ◌+◌, ◌<◌, Bool, true, cond, ◌&&◌, get_or, map, count_by, Option, Some, refl, sym, ap, ⊎_elim, ◌∙◌, arith}
use Rattle.std.specs.Prelude.{find}
use Rattle.std.specs.List.{list_all, range_with_len}
use Rattle.std.proofs.lemmas.Bool.{cases_Bool}
use Rattle.std.proofs.lemmas.List.FromFn.{get_or-map-range_with_len}
use Rattle.std.proofs.lemmas.List.Sums.{sum_by-cons}
use Rattle.std.proofs.lemmas.Option.{same_Some}

-- ---- tests that agree

pub all_below : (p q : ℕ → Bool) (a n : ℕ) → ((c : ℕ) → c < a + n → p c ≡ q c) → list_all p (range_with_len a n) ≡ list_all q (range_with_len a n)
all_below p q a zero same = refl
all_below p q a (suc n) same =
    ap (λ b. b && list_all p (range_with_len (a + 1) n)) (same a (omega arith)) ∙ ap (λ b. q a && b) (all_below p q (a + 1) n (λ c h. same c (omega arith)))

pub find_below : (p q : ℕ → Bool) (a n : ℕ) → ((c : ℕ) → c < a + n → p c ≡ q c) → find p (range_with_len a n) ≡ find q (range_with_len a n)
find_below p q a zero same = refl
find_below p q a (suc n) same =
    ap (λ b. cond b (Some a) (find p (range_with_len (a + 1) n))) (same a (omega arith))
    ∙ ap (λ (o : Option ℕ). cond (q a) (Some a) o) (find_below p q (a + 1) n (λ c h. same c (omega arith)))

pub count_below : (p q : ℕ → Bool) (a n : ℕ) → ((c : ℕ) → c < a + n → p c ≡ q c) → count_by p (range_with_len a n) ≡ count_by q (range_with_len a n)
count_below p q a zero same = refl
count_below p q a (suc n) same =
    sum_by-cons (λ c. cond (p c) 1 0) a (range_with_len (a + 1) n) ∙ ap (λ b. cond b 1 0 + count_by p (range_with_len (a + 1) n)) (same a (omega arith))
    ∙ ap (λ m. cond (q a) 1 0 + m) (count_below p q (a + 1) n (λ c h. same c (omega arith))) ∙ sym (sum_by-cons (λ c. cond (q c) 1 0) a (range_with_len (a + 1) n))

-- ---- what is found, and what stands there

-- the number that is found is below n, and passes
pub record FoundBelow (p : ℕ → Bool) (n c : ℕ) : Type 0 where
  pub below : c < n
  pub passes : p c ≡ true

found_from : (p : ℕ → Bool) (a n c : ℕ) → find p (range_with_len a n) ≡ Some c → FoundBelow p (a + n) c
found_from p a zero c h = absurd (cc)
found_from p a (suc n) c h =
    ⊎_elim
    (λ e. let same : a ≡ c = same_Some a c (sym (ap (λ b. cond b (Some a) (find p (range_with_len (a + 1) n))) e) ∙ h) in
    record { below = omega arith; passes = ap p (sym same) ∙ e })
    (λ e. let rest = found_from p (a + 1) n c (sym (ap (λ b. cond b (Some a) (find p (range_with_len (a + 1) n))) e) ∙ h) in
    record { below = let less = rest.below in omega arith; passes = rest.passes })
    (cases_Bool (p a))

pub found_below : (p : ℕ → Bool) (n c : ℕ) → find p (range_with_len 0 n) ≡ Some c → FoundBelow p n c
found_below p n c h =
    let all = found_from p 0 n c h in
    record { below = let less = all.below in omega arith; passes = all.passes }

-- what stands at a number
pub got_below : {A : Type 0} (f : ℕ → A) (n c : ℕ) (d : A) → c < n → get_or (map f (range_with_len 0 n)) c d ≡ f c
got_below f n c d h =
    let count : 0 + c ≡ c = omega arith in
    get_or-map-range_with_len f 0 n c c d h count
