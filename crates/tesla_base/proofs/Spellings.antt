-- Decimal texts and the numbers that they spell.
use Rattle.std.proofs.Common.{◌≡◌, ℕ, zero, suc, ◌-◌, ◌^◌, ◌<◌, ◌≤◌, Bool, true, false, cond, not, ltb, leb, List, [], ◌∷◌, length, get_or, drop, Option, Some, None, Ok, Err, Result, IfOk, ℤ, pos, negsuc, decimal, refl, ap, sym, ◌∙◌, arith, if◌then◌else◌, ◌&&◌, FitsSigned, eqb, slice_index}
use Rattle.std.specs.Str.Parse.{AllDigits, digits_value}
use Rattle.std.specs.Fmt.{signed_decimal}
use Rattle.std.specs.Int.{IsInRange, w64}
use Rattle.std.specs.Char.{is_ascii_digit}
use Rattle.std.specs.List.{position_or_len}
use Rattle.std.proofs.lemmas.Bool.Decides.{nat_tests}
use Rattle.std.proofs.lemmas.Fmt.{decimal-digits_value, decimal_digit, decimal_nonempty, digits_decimal, digits_value-decimal, first_decimal}
use Rattle.std.proofs.lemmas.Int.{ints}
use Rattle.std.proofs.lemmas.List.Sums.{position_or_len_is}
use Rattle.std.proofs.lemmas.Str.Parse.{IsNumeralModel, digit_at, numerals_by_value, tells_digits}
use Rattle.tesla_base.specs.declared.number.NumberFault.{NumberFault}
use Rattle.tesla_base.specs.declared.number.NumberFault.TheVariants.{Empty, LeadingZero, TooLarge}
use Rattle.tesla_base.specs.Number.{first_other, number_of, signed_of, value_of, value_unless, plain, negative}
use Rattle.tesla_base.proofs.Numbers.{all_digits}

own : IsNumeralModel (AllDigits 10) (digits_value 10)
own = numerals_by_value (AllDigits 10) tells_digits

-- by the two tests of `value_of`
by_tests : (lead small : Bool) (v : ℕ) (text : List ℕ) → (lead ≡ false → small ≡ true → text ≡ decimal v) → IfOk {E = NumberFault} (if lead then Err LeadingZero else if small then Ok v else Err TooLarge) (λ n. text ≡ decimal n)
by_tests true small v text h = tt
by_tests false true v text h = h refl refl
by_tests false false v text h = tt

one_zero : (first size : ℕ) → ((eqb first 48) && ltb 1 size) ≡ false → 0 < size → first ≡ 48 → size ≡ 1
one_zero first size h some zero_first = grind (arith, nat_tests)

within : (v most : ℕ) → leb v most ≡ true → v ≤ most
within v most h = grind (arith, nat_tests)

value_spelled : (most : ℕ) (text : List ℕ) → most < 2 ^ 64 → AllDigits 10 text → 0 < length text → IfOk (value_of most text) (λ n. text ≡ decimal n)
value_spelled most text fits all some =
    by_tests _ _ (digits_value 10 text) text
    (λ lead small. sym (decimal-digits_value own text all some (one_zero (get_or text 0 0) (length text) lead some) (let h = within (digits_value 10 text) most small in omega arith)))

unless_spelled : (other : Option ℕ) (most before : ℕ) (text : List ℕ) → most < 2 ^ 64 → other ≡ first_other text → 0 < length text → IfOk (value_unless other most before text) (λ n. text ≡ decimal n)
unless_spelled (Some place) most before text fits is some = tt
unless_spelled None most before text fits is some = value_spelled most text fits (all_digits text is) some

nonempty : (empty : Bool) (r : Result ℕ NumberFault) (P : ℕ → Type 0) → (empty ≡ false → IfOk r P) → IfOk {E = NumberFault} (if empty then Err Empty else r) P
nonempty true r P h = tt
nonempty false r P h = h refl

not_empty : (n : ℕ) → eqb n 0 ≡ false → 0 < n
not_empty n h = grind (arith, nat_tests)

-- what is read is spelled so
pub number_spelled : (most before : ℕ) (text : List ℕ) → most < 2 ^ 64 → IfOk (number_of most before text) (λ n. text ≡ decimal n)
number_spelled most before text fits = nonempty _ _ _ (λ h. unless_spelled (first_other text) most before text fits refl (not_empty _ h))

by_sign : (minus : Bool) (text : List ℕ) (r q : Result ℤ NumberFault) → (minus ≡ true → IfOk r (λ z. text ≡ signed_decimal z)) → IfOk q (λ z. text ≡ signed_decimal z) → IfOk (if minus then r else q) (λ z. text ≡ signed_decimal z)
by_sign true text r q with_minus without = with_minus refl
by_sign false text r q with_minus without = without

negative_spelled : (r : Result ℕ NumberFault) (text : List ℕ) → text ≡ 45 ∷ drop 1 text → IfOk r (λ n. drop 1 text ≡ decimal n) → IfOk (negative r) (λ z. text ≡ signed_decimal z)
negative_spelled (Ok zero) text first is = tt
negative_spelled (Ok (suc n)) text first is = first ∙ ap (λ (ds : List ℕ). 45 ∷ ds) is
negative_spelled (Err fault) text first is = tt

plain_spelled : (r : Result ℕ NumberFault) (text : List ℕ) → IfOk r (λ n. text ≡ decimal n) → IfOk (plain r) (λ z. text ≡ signed_decimal z)
plain_spelled (Ok n) text is = is
plain_spelled (Err fault) text is = tt

same_number : (m n : ℕ) → eqb m n ≡ true → m ≡ n
same_number m n h = grind (arith, nat_tests)

minus_first : (text : List ℕ) → get_or text 0 0 ≡ 45 → text ≡ 45 ∷ drop 1 text
minus_first [] h = absurd (omega arith)
minus_first (c ∷ cs) h = ap (λ (x : ℕ). x ∷ cs) h

digit_passes : (d : ℕ) → IsInRange 48 57 d → not (is_ascii_digit d) ≡ false
digit_passes d (low, high) = grind (arith, nat_tests)

not_below : (n : ℕ) → cond (ltb n n) (Some n) None ≡ None
not_below n = grind (arith, nat_tests)

is_within : (v most : ℕ) → v ≤ most → leb v most ≡ true
is_within v most h = grind (arith, nat_tests)

no_lead : (n first size : ℕ) → (n ≡ 0 → size ≡ 1) → (0 < n → 48 < first) → ((eqb first 48) && ltb 1 size) ≡ false
no_lead n first size zero_one some_above = grind (arith, nat_tests)

tests_pass : (lead small : Bool) (v : ℕ) → lead ≡ false → small ≡ true → ◌≡◌ {A = Result ℕ NumberFault} (if lead then Err LeadingZero else if small then Ok v else Err TooLarge) (Ok v)
tests_pass lead small v not_lead is_small = rw (not_lead, is_small)

some_passes : (n : ℕ) (r : Result ℕ NumberFault) → 0 < n → (if eqb n 0 then Err Empty else r) ≡ r
some_passes n r h = let some : eqb n 0 ≡ false = grind (arith, nat_tests) in rw some

digit_no_minus : (text : List ℕ) → AllDigits 10 text → 0 < length text → get_or text 0 0 ≡ 45 → ⊥
digit_no_minus text all some e = omega (arith, (digit_at text 0 all some).0)

plus_read : (first n : ℕ) (r q : Result ℕ NumberFault) → (first ≡ 45 → ⊥) → q ≡ Ok n → (if eqb first 45 then negative r else plain q) ≡ Ok (pos n)
plus_read first n r q other_first is = let other : eqb first 45 ≡ false = grind (arith, nat_tests) in rw (other, is)

zero_length : (n : ℕ) → n ≡ 0 → length (decimal n) ≡ 1
zero_length n is = let digits : decimal 0 ≡ 48 ∷ [] = decimal_digit 0 (omega arith) in rw is (ap length digits)

pub signed_spelled : (text : List ℕ) → IfOk (signed_of text) (λ z. text ≡ signed_decimal z)
unfolding signed_of
signed_spelled text = by_sign _ text _ _ (λ minus. negative_spelled (number_of (2 ^ 63) 1 (drop 1 text)) text (minus_first text (same_number (slice_index text 0) 45 minus)) (number_spelled (2 ^ 63) 1 (drop 1 text) (omega arith))) (plain_spelled (number_of (2 ^ 63 - 1) 0 text) text (number_spelled (2 ^ 63 - 1) 0 text (omega arith)))

none_other : (text : List ℕ) → AllDigits 10 text → first_other text ≡ None
none_other text all =
    let at_end : position_or_len (λ b. not (is_ascii_digit b)) text ≡ length text = position_or_len_is (λ b. not (is_ascii_digit b)) text (length text) 0 (omega arith) (λ k h. digit_passes (get_or text k 0) (digit_at text k all h)) (λ h. absurd (omega arith)) in
    rw at_end (not_below (length text))

value_read : (most n : ℕ) → n ≤ most → n < 2 ^ 64 → value_of most (decimal n) ≡ Ok n
value_read most n small fits =
    rw (digits_value-decimal own n fits) (tests_pass _ _ n (no_lead n (get_or (decimal n) 0 0) (length (decimal n)) (zero_length n) (λ some. first_decimal n some fits)) (is_within n most small))

-- what is spelled so is read
pub number_read : (most before n : ℕ) (text : List ℕ) → n ≤ most → n < 2 ^ 64 → text ≡ decimal n → number_of most before text ≡ Ok n
number_read most before n text small fits is =
    rw is (rw (none_other (decimal n) (digits_decimal own n fits)) (some_passes (length (decimal n)) _ (decimal_nonempty n fits) ∙ value_read most n small fits))

pub signed_read : (z : ℤ) (text : List ℕ) → FitsSigned w64 z → text ≡ signed_decimal z → signed_of text ≡ Ok z
unfolding signed_of
signed_read (pos n) text fits is = let bound : n < 2 ^ 63 = grind (arith, ints) in
    plus_read (slice_index text 0) n _ _ (rw is (λ e. absurd (digit_no_minus (decimal n) (digits_decimal own n (omega arith)) (decimal_nonempty n (omega arith)) e))) (number_read (2 ^ 63 - 1) 0 n text (omega arith) (omega arith) is)
signed_read (negsuc n) text fits is = let bound : n < 2 ^ 63 = grind (arith, ints) in
    rw is (ap negative (number_read (2 ^ 63) 1 (suc n) (decimal (suc n)) (omega arith) (omega arith) refl))
