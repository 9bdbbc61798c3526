-- Decimals, one spelling for each number, and the first fault of any other text.
use Rattle.std.specs.Prelude.{ℕ, zero, suc, ◌+◌, ◌-◌, ◌^◌, not, ◌&&◌, List, length, drop, ℤ, pos, negsuc, Option, Some, None, Result, Ok, Err, nat_lt, nat_le, ◌==◌, slice_index, position, if◌then◌else◌}
use Rattle.std.specs.Char.{is_ascii_digit}
use Rattle.std.specs.Str.Parse.{digits_value, starts_with_minus}
use Rattle.tesla_base.specs.declared.number.NumberFault.{NumberFault}
use Rattle.tesla_base.specs.declared.number.NumberFault.TheVariants.{Empty, NotDigit, LeadingZero, TooLarge}

-- the place of the first byte that is no digit
abbrev pub first_other : List ℕ → Option ℕ
first_other text = position (λ b. not (is_ascii_digit b)) text

-- the number that digits alone spell, where it is not above the most
abbrev pub value_of : ℕ → List ℕ → Result ℕ NumberFault
value_of most text =
    if (slice_index text 0 == 48) && nat_lt 1 (length text) then Err LeadingZero
    else if nat_le (digits_value 10 text) most then Ok (digits_value 10 text)
    else Err TooLarge

-- a byte that is no digit comes before all else; its place is counted from where the whole text begins
abbrev pub value_unless : Option ℕ → ℕ → ℕ → List ℕ → Result ℕ NumberFault
value_unless (Some place) most before text = Err (NotDigit (before + place))
value_unless None most before text = value_of most text

-- the number that a text spells, with so many bytes before the text
abbrev pub number_of : ℕ → ℕ → List ℕ → Result ℕ NumberFault
number_of most before text = if length text == 0 then Err Empty else value_unless (first_other text) most before text

-- the number of 64 bits that a text spells
unfoldable pub decimal_of : List ℕ → Result ℕ NumberFault
decimal_of text = number_of (2 ^ 64 - 1) 0 text

-- no sign stands before the number
abbrev pub plain : Result ℕ NumberFault → Result ℤ NumberFault
plain (Ok n) = Ok (pos n)
plain (Err fault) = Err fault

-- a minus stands before the number, which is not 0
abbrev pub negative : Result ℕ NumberFault → Result ℤ NumberFault
negative (Ok zero) = Err LeadingZero
negative (Ok (suc n)) = Ok (negsuc n)
negative (Err fault) = Err fault

-- the signed number of 64 bits that a text spells
unfoldable pub signed_of : List ℕ → Result ℤ NumberFault
signed_of text =
    if starts_with_minus text then negative (number_of (2 ^ 63) 1 (drop 1 text))
    else plain (number_of (2 ^ 63 - 1) 0 text)
