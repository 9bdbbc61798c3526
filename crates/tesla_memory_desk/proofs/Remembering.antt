-- What a clock in memory tells after a call.
use Rattle.std.proofs.Common.{◌≡◌, ℕ, zero, suc, ◌+◌, ◌-◌, ◌^◌, min, nat_lt, Bool, true, false, List, [], ◌∷◌, ◌++◌, length, drop, get_or, refl, sym, subst, ap, ◌∙◌, length-append, arith}
use Rattle.std.proofs.lemmas.Bool.Decides.{nat_tests}
use Rattle.tesla_desk.specs.Clocks.{next_reading, later_readings, Ticks}
use Rattle.tesla_memory_desk.specs.LiveMemory.{ahead_after, reading_after, readings_until, told_where, told_after}

-- what comes after one reading more
later_one : (n first : ℕ) (more : List ℕ) → drop (min (n + 1) (length more)) (first ∷ more) ≡ later_readings (drop (min n (length more)) (first ∷ more))
later_one n first [] = let a : min (n + 1) 0 ≡ 0 = omega arith in let b : min n 0 ≡ 0 = omega arith in
    ap (λ k. drop k (first ∷ [])) a ∙ ap (λ k. later_readings (drop k (first ∷ []))) (sym b)
later_one zero first (next ∷ more) = let a : min (0 + 1) (length (next ∷ more)) ≡ 1 = omega arith in let b : min 0 (length (next ∷ more)) ≡ 0 = omega arith in
    ap (λ k. drop k (first ∷ next ∷ more)) a ∙ ap (λ k. later_readings (drop k (first ∷ next ∷ more))) (sym b)
later_one (suc n) first (next ∷ more) = let a : min (suc n + 1) (length (next ∷ more)) ≡ suc (min (n + 1) (length more)) = omega arith in let b : min (suc n) (length (next ∷ more)) ≡ suc (min n (length more)) = omega arith in
    ap (λ k. drop k (first ∷ next ∷ more)) a ∙ later_one n next more ∙ ap (λ k. later_readings (drop k (first ∷ next ∷ more))) (sym b)

-- the next reading of a list from a place on
next_at : (k : ℕ) (readings : List ℕ) → get_or readings k 0 ≡ next_reading (drop k readings)
next_at zero [] = refl
next_at zero (first ∷ more) = refl
next_at (suc k) [] = refl
next_at (suc k) (first ∷ more) = next_at k more

ahead_more : (n : ℕ) (readings : List ℕ) → ahead_after (n + 1) readings ≡ later_readings (ahead_after n readings)
ahead_more n [] = refl
ahead_more n (first ∷ more) = later_one n first more

reading_next : (n : ℕ) (readings : List ℕ) → reading_after n readings ≡ next_reading (ahead_after n readings)
reading_next n [] = refl
reading_next n (first ∷ more) = next_at (min n (length more)) (first ∷ more)

until_more : (n : ℕ) (readings : List ℕ) → readings_until (n + 1) readings ≡ readings_until n readings ++ next_reading (ahead_after n readings) ∷ []
until_more n readings = let a : n + 1 ≡ suc n = omega arith in
    ap (λ k. readings_until k readings) a ∙ ap (λ r. readings_until n readings ++ r ∷ []) (reading_next n readings)

-- so many readings were given
until_size : (n : ℕ) (readings : List ℕ) → length (readings_until n readings) ≡ n
until_size zero readings = refl
until_size (suc n) readings = omega (arith, length-append (readings_until n readings) (reading_after n readings ∷ []), until_size n readings)

ticks_where : (a b : Bool) (n m : ℕ) (readings : List ℕ) → nat_lt n (2 ^ 64 - 1) ≡ a → nat_lt m (2 ^ 64 - 1) ≡ b → m ≡ min (n + 1) (2 ^ 64 - 1) → Ticks (told_where a n readings) (told_where b m readings) (reading_after n readings)
ticks_where false false n m readings was is count = tt
ticks_where true false n m readings was is count = let size = until_size n readings in grind (arith, nat_tests, was, is, count, size)
ticks_where false true n m readings was is count = absurd (grind (arith, nat_tests, was, is, count))
ticks_where true true n m readings was is count =
    let one : m ≡ n + 1 = grind (arith, nat_tests, was, is, count) in (
      λ i. record {
        ahead = (ap (λ k. ahead_after k readings) one ∙ ahead_more n readings) i;
        given = (ap (λ k. readings_until k readings) one ∙ until_more n readings) i;
      },
      reading_next n readings,
    )

-- a clock with a list after one reading more
pub ticks_once : (n m : ℕ) (readings : List ℕ) (reading : ℕ) → m ≡ min (n + 1) (2 ^ 64 - 1) → reading ≡ reading_after n readings → Ticks (told_after n readings) (told_after m readings) reading
ticks_once n m readings reading count is =
    subst (λ (r : ℕ). Ticks (told_after n readings) (told_after m readings) r) (sym is) (ticks_where _ _ n m readings refl refl count)
