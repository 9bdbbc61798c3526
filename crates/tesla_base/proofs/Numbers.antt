-- Texts of decimal digits and their values.
use Rattle.std.proofs.Common.{◌≡◌, ℕ, ◌+◌, ◌-◌, ◌*◌, ◌<◌, ◌≤◌, false, cond, not, ltb, List, length, get_or, take, Some, None, ap, ◌∙◌, arith, nat_le, if◌then◌else◌}
use Rattle.std.specs.Str.Parse.{AllDigits, digits_value}
use Rattle.std.specs.Int.{IsInRange}
use Rattle.std.specs.Char.{digit_value, is_ascii_digit}
use Rattle.std.proofs.lemmas.Bool.Decides.{nat_tests}
use Rattle.std.proofs.lemmas.Int.Digits.{digits_value_more}
use Rattle.std.proofs.lemmas.List.Sums.{fails_before_first}
use Rattle.std.proofs.lemmas.Str.Parse.{digit_at, digits_value-take-le, numerals_by_value, tells_by_index}
use Rattle.tesla_base.specs.Number.{first_other}

-- what a digit is worth
digit_worth : (d : ℕ) → IsInRange 48 57 d → digit_value d ≡ d - 48
digit_worth d (low, high) = grind (arith, nat_tests)

-- one more digit
pub value_more : (ds : List ℕ) (i : ℕ) → AllDigits 10 ds → i < length ds → digits_value 10 (take (i + 1) ds) ≡ digits_value 10 (take i ds) * 10 + (get_or ds i 0 - 48)
value_more ds i all h = digits_value_more 10 ds i h ∙ ap (λ (x : ℕ). digits_value 10 (take i ds) * 10 + x) (digit_worth _ (digit_at ds i all h))

-- the whole is no less than the value of the digits so far
above_most : (ds : List ℕ) (i most : ℕ) → AllDigits 10 ds → i < length ds → most < digits_value 10 (take i ds) * 10 + (get_or ds i 0 - 48) → most < digits_value 10 ds
above_most ds i most all h over = omega (arith, value_more ds i all h, digits_value-take-le 10 ds (i + 1) (omega arith))

none_above : (most n : ℕ) → most < n → None ≡ (if nat_le n most then Some n else None)
none_above most n h = grind (arith, nat_tests)

-- digits that are too large so far are too large
pub too_large : (ds : List ℕ) (i most value : ℕ) → AllDigits 10 ds → i < length ds → value ≡ digits_value 10 (take i ds) → most < value * 10 + (get_or ds i 0 - 48) → None ≡ (if nat_le (digits_value 10 ds) most then Some (digits_value 10 ds) else None)
too_large ds i most value all h is over = none_above most (digits_value 10 ds) (above_most ds i most all h (rw (← is) over))

none_past : (n m : ℕ) → None ≡ cond (ltb n m) (Some n) None → m ≤ n
none_past n m h = grind (arith, nat_tests)

digit_from_test : (d : ℕ) → not (is_ascii_digit d) ≡ false → IsInRange 48 57 d
digit_from_test d h = grind (arith, nat_tests)

-- where each byte is a digit there is no other
pub all_digits : (text : List ℕ) → None ≡ first_other text → AllDigits 10 text
all_digits text none = (numerals_by_value _ tells_by_index).to text (λ i h. digit_from_test (get_or text i 0) (fails_before_first (λ b. not (is_ascii_digit b)) text i 0 (omega (arith, none_past _ _ none))))
