-- Words with a slash between two numbers.
use Rattle.std.proofs.Common.{◌≡◌, ◌∙◌, ℕ, suc, ◌+◌, ◌-◌, ◌<◌, ◌≤◌, ◌⊎◌, inl, inr, true, false, cond, ltb, eqb, List, [], ◌∷◌, ◌++◌, length, get_or, take, drop, Option, Some, None, IfSome, position, decimal, refl, sym, ap, arith, length-append, take-append-drop}
use Rattle.std.specs.Str.Parse.{AllDigits, digits_value}
use Rattle.std.specs.Int.{IsInRange}
use Rattle.std.specs.List.{position_or_len}
use Rattle.std.proofs.lemmas.Bool.Decides.{nat_tests}
use Rattle.std.proofs.lemmas.Fmt.{digits_decimal}
use Rattle.std.proofs.lemmas.Grind.{common_steps}
use Rattle.std.proofs.lemmas.Option.{none-some}
use Rattle.std.proofs.lemmas.List.Quantifiers.{position-Some}
use Rattle.tesla_base.proofs.Prefixes.{some_is}
use Rattle.std.proofs.lemmas.List.{drop_more, take_rest}
use Rattle.std.proofs.lemmas.List.Sums.{position_or_len_is}
use Rattle.tesla_front.specs.Words.{ArePacketLimits, IsNumberWithin, is_slash}
use Rattle.tesla_front.specs.declared.words.PacketLimits.{PacketLimits}
use Rattle.std.proofs.lemmas.Str.Parse.{IsNumeralModel, digit_at, numerals_by_value, tells_digits}

own : IsNumeralModel (AllDigits 10) (digits_value 10)
own = numerals_by_value (AllDigits 10) tells_digits

digit_other : (d : ℕ) → IsInRange 48 57 d → is_slash d ≡ false
digit_other d (low, high) = grind (arith, nat_tests)

within : (m n : ℕ) → m < n → cond (ltb m n) (Some m) None ≡ Some m
within m n h = grind (arith, nat_tests)

outside : (n : ℕ) → cond (ltb n n) (Some n) None ≡ None
outside n = grind (arith, nat_tests)

left_at : (xs ys : List ℕ) (k : ℕ) → k < length xs → get_or (xs ++ ys) k 0 ≡ get_or xs k 0
left_at xs ys k h = grind (arith, common_steps)

next_at : (xs ys : List ℕ) → get_or (xs ++ 47 ∷ ys) (length xs) 0 ≡ 47
next_at [] ys = refl
next_at (x ∷ xs) ys = next_at xs ys

-- there is no slash among digits
pub no_slash : (xs : List ℕ) → AllDigits 10 xs → position is_slash xs ≡ None
no_slash xs all =
    let at_end : position_or_len is_slash xs ≡ length xs = position_or_len_is is_slash xs (length xs) 0 (omega arith) (λ k h. digit_other (get_or xs k 0) (digit_at xs k all h)) (λ h. absurd (omega arith)) in
    rw at_end (outside (length xs))

-- the slash behind digits is the first
pub first_slash : (xs ys : List ℕ) → AllDigits 10 xs → position is_slash (xs ++ 47 ∷ ys) ≡ Some (length xs)
first_slash xs ys all =
    let fits : length xs < length (xs ++ 47 ∷ ys) = omega (arith, length-append xs (47 ∷ ys)) in
    let here : position_or_len is_slash (xs ++ 47 ∷ ys) ≡ length xs = position_or_len_is is_slash (xs ++ 47 ∷ ys) (length xs) 0 (omega arith) (λ k h. ap is_slash (left_at xs (47 ∷ ys) k h) ∙ digit_other (get_or xs k 0) (digit_at xs k all h)) (λ h. ap is_slash (next_at xs ys)) in
    rw here (within (length xs) (length (xs ++ 47 ∷ ys)) fits)

-- digits of a number
pub digits_of : (n : ℕ) → n ≤ 65536 → AllDigits 10 (decimal n)
digits_of n small = digits_decimal own n (omega arith)

-- the parts of a word around the slash behind digits
parts_of : (xs ys : List ℕ) → (take (length xs) (xs ++ 47 ∷ ys) ≡ xs) × (drop (length xs + 1) (xs ++ 47 ∷ ys) ≡ ys)
parts_of [] ys = (refl, refl)
parts_of (x ∷ xs) ys =
    let count : length (x ∷ xs) + 1 ≡ suc (length xs + 1) = omega arith in
    (ap (λ l. x ∷ l) (parts_of xs ys).0, ap (λ k. drop k (x ∷ (xs ++ 47 ∷ ys))) count ∙ (parts_of xs ys).1)

-- both numbers of a word with a slash
pub both_spelled : (word : List ℕ) (place : ℕ) (limits : PacketLimits) → position is_slash word ≡ Some place → ArePacketLimits word limits → IsNumberWithin 1 65536 (take place word) limits.capacity × IsNumberWithin 1 limits.capacity (drop (place + 1) word) limits.quota
both_spelled word place limits at are = by are.spelled where
  by : ((word ≡ decimal limits.capacity) × (limits.quota ≡ limits.capacity)) ⊎ (word ≡ decimal limits.capacity ++ 47 ∷ decimal limits.quota) → IsNumberWithin 1 65536 (take place word) limits.capacity × IsNumberWithin 1 limits.capacity (drop (place + 1) word) limits.quota
  by (inl lone) =
      let none : position is_slash word ≡ None = ap (position is_slash) lone.0 ∙ no_slash (decimal limits.capacity) (digits_of limits.capacity are.capacity) in
      absurd (none-some place (sym none ∙ at))
  by (inr both) =
      let here : position is_slash word ≡ Some (length (decimal limits.capacity)) = ap (position is_slash) both ∙ first_slash (decimal limits.capacity) (decimal limits.quota) (digits_of limits.capacity are.capacity) in
      let same : place ≡ length (decimal limits.capacity) = some_is place (length (decimal limits.capacity)) (sym at ∙ here) in
      let parts = parts_of (decimal limits.capacity) (decimal limits.quota) in (
        record { spelled = ap (λ k. take k word) same ∙ ap (take (length (decimal limits.capacity))) both ∙ parts.0; least = omega (arith, are.some, are.within); limit = are.capacity },
        record { spelled = ap (λ k. drop (k + 1) word) same ∙ ap (drop (length (decimal limits.capacity) + 1)) both ∙ parts.1; least = are.some; limit = are.within },
      )

-- the number of a word without a slash
pub lone_spelled : (word : List ℕ) (limits : PacketLimits) → position is_slash word ≡ None → ArePacketLimits word limits → IsNumberWithin 1 65536 word limits.capacity × (limits.quota ≡ limits.capacity)
lone_spelled word limits none are = by are.spelled where
  by : ((word ≡ decimal limits.capacity) × (limits.quota ≡ limits.capacity)) ⊎ (word ≡ decimal limits.capacity ++ 47 ∷ decimal limits.quota) → IsNumberWithin 1 65536 word limits.capacity × (limits.quota ≡ limits.capacity)
  by (inl lone) = (record { spelled = lone.0; least = omega (arith, are.some, are.within); limit = are.capacity }, lone.1)
  by (inr both) =
      let here : position is_slash word ≡ Some (length (decimal limits.capacity)) = ap (position is_slash) both ∙ first_slash (decimal limits.capacity) (decimal limits.quota) (digits_of limits.capacity are.capacity) in
      absurd (none-some (length (decimal limits.capacity)) (sym none ∙ here))

-- places are told by their two numbers
same_limits : (number : ℕ) (limits : PacketLimits) → number ≡ limits.capacity → number ≡ limits.quota → Some (record { capacity = number; quota = number }) ≡ Some limits
same_limits number limits e d =
    ap (λ (c : ℕ). Some (record { capacity = c; quota = number })) e ∙ ap (λ (q : ℕ). Some (record { capacity = limits.capacity; quota = q })) d

-- a word without a slash spells no other places
pub lone_is : (word : List ℕ) (number : ℕ) (limits : PacketLimits) → position is_slash word ≡ None → ((n : ℕ) → IsNumberWithin 1 65536 word n → Some number ≡ Some n) → ArePacketLimits word limits → Some (record { capacity = number; quota = number }) ≡ Some limits
lone_is word number limits none only are =
    let lone = lone_spelled word limits none are in
    let same : number ≡ limits.capacity = some_is number limits.capacity (only limits.capacity lone.0) in
    same_limits number limits same (same ∙ sym lone.1)

-- a word without a slash and without a number spells no places
pub none_is : (word : List ℕ) (limits : PacketLimits) → position is_slash word ≡ None → ((n : ℕ) → IsNumberWithin 1 65536 word n → None ≡ Some n) → ArePacketLimits word limits → ⊥
none_is word limits none only are = none-some limits.capacity (only limits.capacity (lone_spelled word limits none are).0)

is_number : (m n : ℕ) → eqb m n ≡ true → m ≡ n
is_number m n h = grind (arith, nat_tests)

split_at : (xs : List ℕ) (i : ℕ) → i < length xs → xs ≡ take i xs ++ get_or xs i 0 ∷ drop (i + 1) xs
split_at xs i h = sym (take-append-drop i xs) ∙ ap (λ rest. take i xs ++ rest) (drop_more xs i 0 h)

-- two numbers around the first slash spell the places
pub both_are : (word : List ℕ) (place : ℕ) (limits : PacketLimits) → position is_slash word ≡ Some place → IsNumberWithin 1 65536 (take place word) limits.capacity → IsNumberWithin 1 limits.capacity (take (length word - (place + 1)) (drop (place + 1) word)) limits.quota → ArePacketLimits word limits
both_are word place limits at prefix back =
    let found = position-Some is_slash word place 0 at in
    let split = split_at word place found.0 in
    let slash : get_or word place 0 ≡ 47 = is_number (get_or word place 0) 47 found.1 in
    record {
      spelled = inr (split ∙ ap (λ xs. xs ++ get_or word place 0 ∷ drop (place + 1) word) prefix.spelled ∙ ap (λ b. decimal limits.capacity ++ b ∷ drop (place + 1) word) slash ∙ ap (λ ys. decimal limits.capacity ++ 47 ∷ ys) (sym (take_rest word (place + 1)) ∙ back.spelled));
      capacity = prefix.limit;
      some = back.least;
      within = back.limit;
    }

-- what is found around the first slash is what the word spells
pub both_found : (word : List ℕ) (place : ℕ) (found : Option PacketLimits) → position is_slash word ≡ Some place → IfSome found (λ limits. IsNumberWithin 1 65536 (take place word) limits.capacity × IsNumberWithin 1 limits.capacity (take (length word - (place + 1)) (drop (place + 1) word)) limits.quota) → IfSome found (ArePacketLimits word)
both_found word place None at is = tt
both_found word place (Some limits) at is = both_are word place limits at is.0 is.1
