-- What is read is spelled so: from what a text is judged to say to its bytes.
use Rattle.std.proofs.Common.{◌≡◌, ◌⊎◌, ℕ, zero, suc, ◌+◌, ◌-◌, ◌*◌, ◌/◌, ◌%◌, ◌^◌, ◌<◌, ◌≤◌, Bool, true, false, cond, eqb, ltb, List, [], ◌∷◌, ◌++◌, length, Option, Some, None, Result, Ok, Err, refl, sym, ap, subst, ◌∙◌, append_assoc, arith, inl, inr}
use Rattle.std.proofs.lemmas.Bool.{cases_lt}
use Rattle.std.specs.Str.Parse.{digits_value}
use Rattle.tesla_base.specs.declared.number.NumberFault.TheVariants.{Empty}
use Rattle.std.specs.Prelude.{slice_index, codes, decimal, IfOk, nat_le, ◌&&◌}
use Rattle.std.specs.Int.{w64, from_be_bytes, to_be_bytes}
use Rattle.std.specs.List.{join_with_byte, flat_map, list_all, AllByRecursion}
use Rattle.std.specs.Str.{bytes_eq}
use Rattle.std.proofs.lemmas.Bool.Decides.{nat_tests}
use Rattle.std.proofs.lemmas.List.{append-nil}
use Rattle.std.proofs.lemmas.List.Splits.{join_with_byte-slice_split}
use Rattle.std.proofs.lemmas.Nat.{be_bytes_8}
use Rattle.std.proofs.lemmas.Slice.Eq.{bytes_eq-Decides}
use Rattle.hex.specs.Hex.{◌>>=◌ as ◌hex>>=◌, encode_lower, encode_with, lower_digits, decode_sized, decode_pairs, decode_of, hex_digit_value, pair_value, value_at, digit_or_error, IsBytes}
use Rattle.hex.specs.declared.error.FromHexError.{FromHexError}
use Rattle.hex.proofs.HexLemmas.{decode_sized-ok, decode_sized-twice, decode_of-ok, decode_of-even}
use Rattle.tesla_base.specs.Number.{decimal_of, number_of, value_unless, first_other}
use Rattle.tesla_base.specs.declared.number.NumberFault.{NumberFault}
use Rattle.tesla_base.proofs.Spellings.{number_spelled}
use Rattle.tesla_base.specs.declared.names.StreamId.{StreamId}
use Rattle.tesla_base.specs.Version.{shortest_tag, longest_tag, IsTagLength}
use Rattle.tesla_base.specs.declared.version.Version.{Version}
use Rattle.tesla_base.specs.declared.version.Version.TheVariants.{One, Two}
use Rattle.tesla_clock.specs.Schedule.{Times, IsSchedule}
use Rattle.tesla_commit.specs.declared.chain_row.ChainRow.{ChainRow}
use Rattle.tesla_commit.specs.Parts.{Parts}
use Rattle.tesla_commit.specs.SetupText.{line, version_text, tag_line, chain_values, chain_line, setup_text, HasKey, IsSetup}
use Rattle.tesla_commit.specs.JudgedLines.{◌>>=◌, at, within}
use Rattle.tesla_commit.specs.ChainRows.{row_judged, rows_judged, first_line, end_line}
use Rattle.tesla_commit.specs.Parsing.{between, lines, words, next_line, value_in, chain_words, number_or_bad, number_in, is_lower_digit, bytes_or_bad, hex_in, title_in, stream_in, start_in, limited_in, chain_in, chains_judged, opening_judged, times_judged, tag_judged, rest_judged, judged}
use Rattle.tesla_commit.specs.declared.refusal.SetupKind.{SetupKind}
use Rattle.tesla_commit.specs.declared.refusal.SetupKind.TheVariants.{BadLine, BadHex, LimitPassed, TooManyChains, TooLong}
use Rattle.tesla_commit.proofs.ChainLaws.{same_taken, last_ok, chains_are, chain_is}
use Rattle.tesla_commit.proofs.RowLaws.{bind_ok, guard_ok, ok_is, at_ok, row_is, setup_is}

-- what stands between such bytes, with those bytes put back
pub joined : (byte : ℕ) (text : List ℕ) → join_with_byte byte (between byte text) ≡ text
unfolding between
joined byte text = join_with_byte-slice_split byte text

-- ---- lines and words

pub line_found : (number : ℕ) (parts : List (List ℕ)) (x : List ℕ × List (List ℕ)) → next_line number parts ≡ Ok x → join_with_byte 10 parts ≡ x.0 ++ 10 ∷ join_with_byte 10 x.1
line_found number [] x h = absurd cc
line_found number (unended ∷ []) x h = absurd cc
line_found number (line ∷ next ∷ others) x h =
    subst (λ (y : List ℕ × List (List ℕ)). line ++ 10 ∷ join_with_byte 10 (next ∷ others) ≡ y.0 ++ 10 ∷ join_with_byte 10 y.1) (same_taken (line, next ∷ others) x h) refl

pub test_ok : {A : Type 0} (b : Bool) (x y : A) → cond b (Ok x) (Err BadLine) ≡ Ok y → (b ≡ true) × (x ≡ y)
test_ok true x y h = (refl, ok_is x y (Ok x) refl h)
test_ok false x y h = absurd cc

value_joined : (name value : List ℕ) (parts : List (List ℕ)) → value_in name parts ≡ Ok value → join_with_byte 32 parts ≡ name ++ 32 ∷ value
value_joined name value [] h = absurd cc
value_joined name value (first ∷ []) h = absurd cc
value_joined name value (first ∷ second ∷ []) h =
    let t = test_ok (bytes_eq first name) second value h in
    let same : first ≡ name = (bytes_eq-Decides first name).0 t.0 in
    rw (same, t.1) refl
value_joined name value (first ∷ second ∷ third ∷ others) h = absurd cc

pub value_found : (name value line : List ℕ) → value_in name (words line) ≡ Ok value → line ≡ name ++ 32 ∷ value
value_found name value line h = sym (joined 32 line) ∙ value_joined name value (words line) h

chain_joined : (x : List ℕ × List ℕ × List ℕ) (parts : List (List ℕ)) → chain_words parts ≡ Ok x → join_with_byte 32 parts ≡ codes "chain" ++ 32 ∷ (x.0 ++ 32 ∷ x.1 ++ 32 ∷ x.2)
chain_joined x [] h = absurd cc
chain_joined x (first ∷ []) h = absurd cc
chain_joined x (first ∷ delay ∷ []) h = absurd cc
chain_joined x (first ∷ delay ∷ index ∷ []) h = absurd cc
chain_joined x (first ∷ delay ∷ index ∷ key ∷ []) h =
    let made : List ℕ × List ℕ × List ℕ = (delay, index, key) in
    let t = test_ok (bytes_eq first (codes "chain")) made x h in
    let same : first ≡ codes "chain" = (bytes_eq-Decides first (codes "chain")).0 t.0 in
    subst (λ (y : List ℕ × List ℕ × List ℕ). first ++ 32 ∷ (delay ++ 32 ∷ (index ++ 32 ∷ key)) ≡ codes "chain" ++ 32 ∷ (y.0 ++ 32 ∷ y.1 ++ 32 ∷ y.2)) t.1 (rw same (ap (λ (r : List ℕ). codes "chain" ++ 32 ∷ r) (sym (append_assoc delay (32 ∷ index) (32 ∷ key)))))
chain_joined x (first ∷ delay ∷ index ∷ key ∷ more ∷ others) h = absurd cc

pub chain_found : (x : List ℕ × List ℕ × List ℕ) (line : List ℕ) → chain_words (words line) ≡ Ok x → line ≡ codes "chain" ++ 32 ∷ (x.0 ++ 32 ∷ x.1 ++ 32 ∷ x.2)
chain_found x line h = sym (joined 32 line) ∙ chain_joined x (words line) h

-- ---- numbers

abbrev number_is : ℕ → Result ℕ NumberFault
number_is n = Ok n

same_number : (m n : ℕ) → number_is m ≡ number_is n → m ≡ n
same_number m n h = cc

number_ok : (r : Result ℕ NumberFault) (n : ℕ) → number_or_bad r ≡ Ok n → r ≡ Ok n
number_ok (Ok m) n h = ap Ok (ok_is m n (Ok m) refl h)
number_ok (Err fault) n h = absurd cc

spelled_ok : (word : List ℕ) (r : Result ℕ NumberFault) (n : ℕ) → IfOk r (λ m. word ≡ decimal m) → r ≡ Ok n → word ≡ decimal n
spelled_ok word (Ok m) n h e = h ∙ ap decimal (same_number m n e)
spelled_ok word (Err fault) n h e = absurd cc

bounded : (b c : Bool) (v most n : ℕ) (e d : NumberFault) → (c ≡ true → v ≤ most) → cond b (Err e) (cond c (number_is v) (Err d)) ≡ Ok n → n ≤ most
bounded true c v most n e d h k = absurd cc
bounded false true v most n e d h k = rw (← same_number v n k) (h refl)
bounded false false v most n e d h k = absurd cc

unless_bounded : (o : Option ℕ) (most before n : ℕ) (text : List ℕ) → value_unless o most before text ≡ Ok n → n ≤ most
unless_bounded (Some offset) most before n text h = absurd cc
unless_bounded None most before n text h = bounded _ (nat_le (digits_value 10 text) most) (digits_value 10 text) most n _ _ (λ e. grind (arith, nat_tests)) h

number_bounded : (b : Bool) (o : Option ℕ) (most before n : ℕ) (text : List ℕ) (e : NumberFault) → cond b (Err e) (value_unless o most before text) ≡ Ok n → n ≤ most
number_bounded true o most before n text e h = absurd cc
number_bounded false o most before n text e h = unless_bounded o most before n text h

pub decimal_found : (word : List ℕ) (n : ℕ) → decimal_of word ≡ Ok n → (word ≡ decimal n) × (n < 2 ^ 64)
unfolding decimal_of
decimal_found word n h =
    let most = number_bounded (eqb (length word) 0) (first_other word) (2 ^ 64 - 1) 0 n word Empty h in
    (spelled_ok word (number_of (2 ^ 64 - 1) 0 word) n (number_spelled (2 ^ 64 - 1) 0 word (omega arith)) h, omega (arith, most))

pub number_found : (word : List ℕ) (n : ℕ) → number_in word ≡ Ok n → (word ≡ decimal n) × (n < 2 ^ 64)
number_found word n h = decimal_found word n (number_ok (decimal_of word) n h)

limit_ok : (b : Bool) (x y : ℕ) → cond b (Ok x) (Err LimitPassed) ≡ Ok y → (b ≡ true) × (x ≡ y)
limit_ok true x y h = (refl, ok_is x y (Ok x) refl h)
limit_ok false x y h = absurd cc

pub within_found : (least most number n : ℕ) → within least most number ≡ Ok n → (number ≡ n) × (least ≤ n) × (n ≤ most)
within_found least most number n h =
    let t = limit_ok (nat_le least number && nat_le number most) number n h in
    let low : least ≤ number = grind (arith, nat_tests, t.0) in
    let high : number ≤ most = grind (arith, nat_tests, t.0) in
    (t.1, rw (← t.1) low, rw (← t.1) high)

-- ---- hexadecimal digits

pub lower_low : (k : ℕ) → k < 10 → slice_index lower_digits k ≡ 48 + k
lower_low zero h = refl
lower_low (suc zero) h = refl
lower_low (suc (suc zero)) h = refl
lower_low (suc (suc (suc zero))) h = refl
lower_low (suc (suc (suc (suc zero)))) h = refl
lower_low (suc (suc (suc (suc (suc zero))))) h = refl
lower_low (suc (suc (suc (suc (suc (suc zero)))))) h = refl
lower_low (suc (suc (suc (suc (suc (suc (suc zero))))))) h = refl
lower_low (suc (suc (suc (suc (suc (suc (suc (suc zero)))))))) h = refl
lower_low (suc (suc (suc (suc (suc (suc (suc (suc (suc zero))))))))) h = refl
lower_low (suc (suc (suc (suc (suc (suc (suc (suc (suc (suc k)))))))))) h = absurd (omega arith)

pub lower_high : (k : ℕ) → k < 6 → slice_index lower_digits (10 + k) ≡ 97 + k
lower_high zero h = refl
lower_high (suc zero) h = refl
lower_high (suc (suc zero)) h = refl
lower_high (suc (suc (suc zero))) h = refl
lower_high (suc (suc (suc (suc zero)))) h = refl
lower_high (suc (suc (suc (suc (suc zero))))) h = refl
lower_high (suc (suc (suc (suc (suc (suc k)))))) h = absurd (omega arith)

some_is : (a b : ℕ) (o : Option ℕ) → o ≡ Some a → o ≡ Some b → a ≡ b
some_is a b o h k = cc

-- a lower-case digit is the one of its value
lower_back : (c v : ℕ) → is_lower_digit c ≡ true → hex_digit_value c ≡ Some v → (slice_index lower_digits v ≡ c) × (v < 16)
lower_back c v low h =
    elim (cases_lt c 58) [
      | inl lt ↦
          let ge : 48 ≤ c = grind (arith, nat_tests) in
          let a : (nat_le 65 c && nat_le c 70) ≡ false = grind (arith, nat_tests) in
          let b : (nat_le 97 c && nat_le c 102) ≡ false = grind (arith, nat_tests) in
          let d : (nat_le 48 c && nat_le c 57) ≡ true = grind (arith, nat_tests) in
          let value : hex_digit_value c ≡ Some (c - 48) = rw (a, b, d) refl in
          let same : c - 48 ≡ v = some_is (c - 48) v (hex_digit_value c) value h in
          let digit : slice_index lower_digits v ≡ 48 + (c - 48) = rw (← same) (lower_low (c - 48) (omega arith)) in
          let back : 48 + (c - 48) ≡ c = omega arith in
          (digit ∙ back, omega arith)
      | inr le ↦
          let ge : 97 ≤ c = grind (arith, nat_tests) in
          let top : c ≤ 102 = grind (arith, nat_tests) in
          let a : (nat_le 65 c && nat_le c 70) ≡ false = grind (arith, nat_tests) in
          let b : (nat_le 97 c && nat_le c 102) ≡ true = grind (arith, nat_tests) in
          let value : hex_digit_value c ≡ Some (c - 87) = rw (a, b) refl in
          let same : c - 87 ≡ v = some_is (c - 87) v (hex_digit_value c) value h in
          let offset : v ≡ 10 + (c - 97) = omega arith in
          let digit : slice_index lower_digits v ≡ 97 + (c - 97) = rw offset (lower_high (c - 97) (omega arith)) in
          let back : 97 + (c - 97) ≡ c = omega arith in
          (digit ∙ back, omega arith)
    ]

hex_bind : {A B : Type 0} (r : Result A FromHexError) (f : A → Result B FromHexError) (y : B) → (r hex>>= f) ≡ Ok y → (x : A) × (r ≡ Ok x) × (f x ≡ Ok y)
hex_bind (Ok x) f y h = (x, refl, h)
hex_bind (Err e) f y h = absurd cc

digit_is : (c i v : ℕ) (o : Option ℕ) → digit_or_error c i o ≡ Ok v → o ≡ Some v
digit_is c i v (Some w) h = ap Some (ok_is w v (digit_or_error c i (Some w)) refl h)
digit_is c i v None h = absurd cc

both : (a b : Bool) → (a && b) ≡ true → (a ≡ true) × (b ≡ true)
both true b h = (refl, h)
both false b h = absurd cc

pairs_spelled : (i : ℕ) (word bytes : List ℕ) → list_all is_lower_digit word ≡ true → decode_pairs i word ≡ Ok bytes → encode_lower bytes ≡ word
unfolding decode_pairs encode_with
pairs_spelled i [] bytes low h = rw (← ok_is [] bytes (decode_pairs i []) refl h) refl
pairs_spelled i (a ∷ []) bytes low h = absurd cc
pairs_spelled i (a ∷ b ∷ rest) bytes low h =
    let l0 = both (is_lower_digit a) (is_lower_digit b && list_all is_lower_digit rest) low in
    let l1 = both (is_lower_digit b) (list_all is_lower_digit rest) l0.1 in
    let p0 = hex_bind (pair_value a b i) (λ byte. decode_pairs (i + 2) rest hex>>= λ others. Ok (byte ∷ others)) bytes h in
    let p1 = hex_bind (value_at a i) (λ x. value_at b (i + 1) hex>>= λ y. Ok (x * 16 + y)) p0.0 p0.1 in
    let p2 = hex_bind (value_at b (i + 1)) (λ y. Ok (p1.0 * 16 + y)) p0.0 p1.2 in
    let p3 = hex_bind (decode_pairs (i + 2) rest) (λ others. Ok (p0.0 ∷ others)) bytes p0.2 in
    let high = lower_back a p1.0 l0.0 (digit_is a i p1.0 (hex_digit_value a) p1.1) in
    let under = lower_back b p2.0 l1.0 (digit_is b (i + 1) p2.0 (hex_digit_value b) p2.1) in
    let byte : p1.0 * 16 + p2.0 ≡ p0.0 = ok_is (p1.0 * 16 + p2.0) p0.0 (Ok (p1.0 * 16 + p2.0)) refl p2.2 in
    let quotient : p0.0 / 16 ≡ p1.0 = omega (arith, high.1, under.1) in
    let remainder : p0.0 % 16 ≡ p2.0 = omega (arith, high.1, under.1) in
    let whole : (p0.0 ∷ p3.0) ≡ bytes = ok_is (p0.0 ∷ p3.0) bytes (Ok (p0.0 ∷ p3.0)) refl p3.2 in
    let prefix : encode_lower (p0.0 ∷ p3.0) ≡ a ∷ b ∷ rest = rw (quotient, remainder, high.0, under.0, pairs_spelled (i + 2) rest p3.0 l1.1 p3.1) refl in
    ap encode_lower (sym whole) ∙ prefix

bytes_ok : (r : Result (List ℕ) FromHexError) (bytes : List ℕ) → bytes_or_bad r ≡ Ok bytes → r ≡ Ok bytes
bytes_ok (Ok found) bytes h = ap Ok (ok_is found bytes (bytes_or_bad (Ok found)) refl h)
bytes_ok (Err fault) bytes h = absurd cc

lower_ok : (b : Bool) (r : Result (List ℕ) SetupKind) (bytes : List ℕ) → cond b r (Err BadHex) ≡ Ok bytes → (b ≡ true) × (r ≡ Ok bytes)
lower_ok true r bytes h = (refl, h)
lower_ok false r bytes h = absurd cc

pub record IsSpelled (count : ℕ) (word bytes : List ℕ) : Type 0 where
  pub text : word ≡ encode_lower bytes
  pub whole : length bytes ≡ count
  pub fits : IsBytes bytes

pub hex_found : (count : ℕ) (word bytes : List ℕ) → hex_in count word ≡ Ok bytes → IsSpelled count word bytes
hex_found count word bytes h =
    let t = lower_ok (list_all is_lower_digit word) (bytes_or_bad (decode_sized word count)) bytes h in
    let sized = bytes_ok (decode_sized word count) bytes t.1 in
    let twice = decode_sized-ok word count bytes sized in
    let decoded : decode_of word ≡ Ok bytes = sym (decode_sized-twice word count twice) ∙ sized in
    let ok = decode_of-ok word bytes decoded in
    let pairs : decode_pairs 0 word ≡ Ok bytes = sym (decode_of-even word ok.0) ∙ decoded in
    record { text = sym (pairs_spelled 0 word bytes t.0 pairs); whole = omega (arith, twice, ok.2); fits = ok.3 }

-- ---- the parts of a text

title_ok : (b c : Bool) (version : Version) → cond b (Ok One) (cond c (Ok Two) (Err BadLine)) ≡ Ok version → ((b ≡ true) × (One ≡ version)) ⊎ ((c ≡ true) × (Two ≡ version))
title_ok true c version h = inl (refl, ok_is One version (Ok One) refl h)
title_ok false true version h = inr (refl, ok_is Two version (Ok Two) refl h)
title_ok false false version h = absurd cc

pub title_found : (text : List ℕ) (version : Version) → title_in text ≡ Ok version → text ≡ codes "tesla" ++ 32 ∷ version_text version
title_found text version h =
    elim (title_ok (bytes_eq text (codes "tesla 1")) (bytes_eq text (codes "tesla 2")) version h) [
      | inl one ↦ (bytes_eq-Decides text (codes "tesla 1")).0 one.0 ∙ ap (λ (v : Version). codes "tesla" ++ 32 ∷ version_text v) one.1
      | inr two ↦ (bytes_eq-Decides text (codes "tesla 2")).0 two.0 ∙ ap (λ (v : Version). codes "tesla" ++ 32 ∷ version_text v) two.1
    ]

eight_below : (bytes : List ℕ) → IsBytes bytes → from_be_bytes w64 bytes < 2 ^ 64
eight_below bytes fits = omega (arith, fits 0, fits 1, fits 2, fits 3, fits 4, fits 5, fits 6, fits 7)

pub stream_found : (text : List ℕ) (stream : StreamId) → stream_in text ≡ Ok stream → (text ≡ codes "stream" ++ 32 ∷ encode_lower (to_be_bytes w64 stream.0)) × (stream.0 < 2 ^ 64)
stream_found text stream h =
    let w = bind_ok (value_in (codes "stream") (words text)) (λ word. hex_in 8 word >>= λ bytes. Ok (record { 0 = from_be_bytes w64 bytes })) stream h in
    let b = bind_ok (hex_in 8 w.0) (λ bytes. Ok (record { 0 = from_be_bytes w64 bytes })) stream w.2 in
    let spelled = hex_found 8 w.0 b.0 b.1 in
    let made : StreamId = record { 0 = from_be_bytes w64 b.0 } in
    let back : to_be_bytes w64 (from_be_bytes w64 b.0) ≡ b.0 = be_bytes_8 b.0 (from_be_bytes w64 b.0) spelled.whole spelled.fits refl in
    let value : w.0 ≡ encode_lower (to_be_bytes w64 made.0) = spelled.text ∙ ap encode_lower (sym back) in
    let line : text ≡ codes "stream" ++ 32 ∷ encode_lower (to_be_bytes w64 made.0) = value_found (codes "stream") w.0 text w.1 ∙ ap (λ (v : List ℕ). codes "stream" ++ 32 ∷ v) value in
    subst (λ (s : StreamId). (text ≡ codes "stream" ++ 32 ∷ encode_lower (to_be_bytes w64 s.0)) × (s.0 < 2 ^ 64)) (ok_is made stream (Ok made) refl b.2) (line, eight_below b.0 spelled.fits)

pub start_found : (text : List ℕ) (n : ℕ) → start_in text ≡ Ok n → (text ≡ codes "start" ++ 32 ∷ decimal n) × (n < 2 ^ 64)
start_found text n h =
    let w = bind_ok (value_in (codes "start") (words text)) number_in n h in
    let d = number_found w.0 n w.2 in
    (value_found (codes "start") w.0 text w.1 ∙ ap (λ (v : List ℕ). codes "start" ++ 32 ∷ v) d.0, d.1)

pub limited_found : (name : List ℕ) (least most : ℕ) (text : List ℕ) (n : ℕ) → limited_in name least most text ≡ Ok n → (text ≡ name ++ 32 ∷ decimal n) × (least ≤ n) × (n ≤ most)
limited_found name least most text n h =
    let w = bind_ok (value_in name (words text)) (λ word. number_in word >>= λ number. within least most number) n h in
    let d = bind_ok (number_in w.0) (λ number. within least most number) n w.2 in
    let l = within_found least most d.0 n d.2 in
    let value : w.0 ≡ decimal n = (number_found w.0 d.0 d.1).0 ∙ ap decimal l.0 in
    (value_found name w.0 text w.1 ∙ ap (λ (v : List ℕ). name ++ 32 ∷ v) value, l.1, l.2)

row_values : (last before : ℕ) (text : List ℕ) (w : List ℕ × List ℕ × List ℕ) (delay index : ℕ) (key : List ℕ) (row : ChainRow) → text ≡ codes "chain" ++ 32 ∷ (w.0 ++ 32 ∷ w.1 ++ 32 ∷ w.2) → w.0 ≡ decimal delay → w.1 ≡ decimal index → IsSpelled 32 w.2 key → row_judged last before (record { delay = delay; index = index; key = record { 0 = key } }) ≡ Ok row → (text ≡ codes "chain" ++ 32 ∷ chain_values row) × HasKey row
row_values last before text w delay index key row line d i k h =
    let made : ChainRow = record { delay = delay; index = index; key = record { 0 = key } } in
    let spelled : text ≡ codes "chain" ++ 32 ∷ chain_values made = line ∙ rw (d, i, k.text) refl in
    subst (λ (r : ChainRow). (text ≡ codes "chain" ++ 32 ∷ chain_values r) × HasKey r) (row_is last before made row h).0 (spelled, record { whole = k.whole; bytes = k.fits })

pub row_found : (last before : ℕ) (text : List ℕ) (row : ChainRow) → chain_in last before text ≡ Ok row → (text ≡ codes "chain" ++ 32 ∷ chain_values row) × HasKey row
row_found last before text row h =
    let is = chain_is last before text row h in
    let delay : is.word.0 ≡ decimal is.delay = (number_found is.word.0 is.number is.delays).0 ∙ ap decimal (within_found 1 4096 is.number is.delay is.limit).0 in
    row_values last before text is.word is.delay is.index is.key row (chain_found is.word text is.said) delay (number_found is.word.1 is.index is.indexes).0 (hex_found 32 is.word.2 is.key is.keys) is.judged

-- ---- the whole text

pub line_then : (text name value rest : List ℕ) → text ≡ name ++ 32 ∷ value → text ++ 10 ∷ rest ≡ line name value ++ rest
line_then text name value rest h = rw h (sym (append_assoc (name ++ 32 ∷ value) (10 ∷ []) rest))

-- one more line behind a front
more : (whole prefix : List ℕ) (number : ℕ) (parts : List (List ℕ)) (x : List ℕ × List (List ℕ)) (name value : List ℕ) → whole ≡ prefix ++ join_with_byte 10 parts → next_line number parts ≡ Ok x → x.0 ≡ name ++ 32 ∷ value → whole ≡ (prefix ++ line name value) ++ join_with_byte 10 x.1
more whole prefix number parts x name value h k text =
    h ∙ ap (λ (r : List ℕ). prefix ++ r) (line_found number parts x k ∙ line_then x.0 name value (join_with_byte 10 x.1) text) ∙ sym (append_assoc prefix (line name value) (join_with_byte 10 x.1))

abbrev pub opening_text : Version → StreamId → List ℕ
opening_text version stream = line (codes "tesla") (version_text version) ++ line (codes "stream") (encode_lower (to_be_bytes w64 stream.0))

opening_found : (whole : List ℕ) (parts : List (List ℕ)) (x : Version × StreamId × List (List ℕ)) → whole ≡ join_with_byte 10 parts → opening_judged parts ≡ Ok x → (whole ≡ opening_text x.0 x.1 ++ join_with_byte 10 x.2) × (x.1.0 < 2 ^ 64)
unfolding opening_judged
opening_found whole parts x start h =
    let one = bind_ok (next_line 1 parts) (λ one. at 1 (title_in one.0) >>= λ version. next_line 2 one.1 >>= λ two. at 2 (stream_in two.0) >>= λ stream. Ok (version, stream, two.1)) x h in
    let title = bind_ok (at 1 (title_in one.0.0)) (λ version. next_line 2 one.0.1 >>= λ two. at 2 (stream_in two.0) >>= λ stream. Ok (version, stream, two.1)) x one.2 in
    let two = bind_ok (next_line 2 one.0.1) (λ two. at 2 (stream_in two.0) >>= λ stream. Ok (title.0, stream, two.1)) x title.2 in
    let stream = bind_ok (at 2 (stream_in two.0.0)) (λ stream. Ok (title.0, stream, two.0.1)) x two.2 in
    let first = more whole [] 1 parts one.0 (codes "tesla") (version_text title.0) start one.1 (title_found one.0.0 title.0 (at_ok 1 (title_in one.0.0) title.0 title.1)) in
    let said = stream_found two.0.0 stream.0 (at_ok 2 (stream_in two.0.0) stream.0 stream.1) in
    let second = more whole (line (codes "tesla") (version_text title.0)) 2 one.0.1 two.0 (codes "stream") (encode_lower (to_be_bytes w64 stream.0.0)) first two.1 said.0 in
    let made : Version × StreamId × List (List ℕ) = (title.0, stream.0, two.0.1) in
    subst (λ (y : Version × StreamId × List (List ℕ)). (whole ≡ opening_text y.0 y.1 ++ join_with_byte 10 y.2) × (y.1.0 < 2 ^ 64)) (ok_is made x (Ok made) refl stream.2) (second, said.1)

abbrev pub times_text : List ℕ → Times → List ℕ
times_text prefix times = prefix ++ line (codes "start") (decimal times.start) ++ line (codes "interval") (decimal times.length) ++ line (codes "last") (decimal times.last)

times_found : (whole prefix : List ℕ) (parts : List (List ℕ)) (x : Times × List (List ℕ)) → whole ≡ prefix ++ join_with_byte 10 parts → times_judged parts ≡ Ok x → (whole ≡ times_text prefix x.0 ++ join_with_byte 10 x.1) × IsSchedule x.0 × (x.0.start < 2 ^ 64)
unfolding times_judged
times_found whole prefix parts x begin h =
    let three = bind_ok (next_line 3 parts) (λ three. at 3 (start_in three.0) >>= λ start. next_line 4 three.1 >>= λ four. at 4 (limited_in (codes "interval") 1000 3600000000 four.0) >>= λ length. next_line 5 four.1 >>= λ five. at 5 (limited_in (codes "last") 1 1048576 five.0) >>= λ last. Ok (record { start = start; length = length; last = last }, five.1)) x h in
    let start = bind_ok (at 3 (start_in three.0.0)) (λ start. next_line 4 three.0.1 >>= λ four. at 4 (limited_in (codes "interval") 1000 3600000000 four.0) >>= λ length. next_line 5 four.1 >>= λ five. at 5 (limited_in (codes "last") 1 1048576 five.0) >>= λ last. Ok (record { start = start; length = length; last = last }, five.1)) x three.2 in
    let four = bind_ok (next_line 4 three.0.1) (λ four. at 4 (limited_in (codes "interval") 1000 3600000000 four.0) >>= λ length. next_line 5 four.1 >>= λ five. at 5 (limited_in (codes "last") 1 1048576 five.0) >>= λ last. Ok (record { start = start.0; length = length; last = last }, five.1)) x start.2 in
    let span = bind_ok (at 4 (limited_in (codes "interval") 1000 3600000000 four.0.0)) (λ length. next_line 5 four.0.1 >>= λ five. at 5 (limited_in (codes "last") 1 1048576 five.0) >>= λ last. Ok (record { start = start.0; length = length; last = last }, five.1)) x four.2 in
    let five = bind_ok (next_line 5 four.0.1) (λ five. at 5 (limited_in (codes "last") 1 1048576 five.0) >>= λ last. Ok (record { start = start.0; length = span.0; last = last }, five.1)) x span.2 in
    let last = bind_ok (at 5 (limited_in (codes "last") 1 1048576 five.0.0)) (λ last. Ok (record { start = start.0; length = span.0; last = last }, five.0.1)) x five.2 in
    let starts = start_found three.0.0 start.0 (at_ok 3 (start_in three.0.0) start.0 start.1) in
    let spans = limited_found (codes "interval") 1000 3600000000 four.0.0 span.0 (at_ok 4 (limited_in (codes "interval") 1000 3600000000 four.0.0) span.0 span.1) in
    let lasts = limited_found (codes "last") 1 1048576 five.0.0 last.0 (at_ok 5 (limited_in (codes "last") 1 1048576 five.0.0) last.0 last.1) in
    let first = more whole prefix 3 parts three.0 (codes "start") (decimal start.0) begin three.1 starts.0 in
    let second = more whole (prefix ++ line (codes "start") (decimal start.0)) 4 three.0.1 four.0 (codes "interval") (decimal span.0) first four.1 spans.0 in
    let third = more whole (prefix ++ line (codes "start") (decimal start.0) ++ line (codes "interval") (decimal span.0)) 5 four.0.1 five.0 (codes "last") (decimal last.0) second five.1 lasts.0 in
    let made : Times × List (List ℕ) = (record { start = start.0; length = span.0; last = last.0 }, five.0.1) in
    subst (λ (y : Times × List (List ℕ)). (whole ≡ times_text prefix y.0 ++ join_with_byte 10 y.1) × IsSchedule y.0 × (y.0.start < 2 ^ 64)) (ok_is made x (Ok made) refl last.2) (third, record { shortest = spans.1; longest = spans.2; first = lasts.1; most = lasts.2 }, starts.1)

-- the line of the tags' length, where there is one
tag_found : (version : Version) (whole prefix : List ℕ) (parts : List (List ℕ)) (x : ℕ × List (List ℕ)) → whole ≡ prefix ++ join_with_byte 10 parts → tag_judged version parts ≡ Ok x → (whole ≡ (prefix ++ tag_line version x.0) ++ join_with_byte 10 x.1) × IsTagLength version x.0
unfolding tag_judged
tag_found One whole prefix parts x begin h =
    let made : ℕ × List (List ℕ) = (longest_tag One, parts) in
    subst (λ (y : ℕ × List (List ℕ)). (whole ≡ (prefix ++ tag_line One y.0) ++ join_with_byte 10 y.1) × IsTagLength One y.0) (ok_is made x (Ok made) refl h) (begin ∙ ap (λ (r : List ℕ). r ++ join_with_byte 10 parts) (sym (append-nil prefix)), record { shortest = omega arith; longest = omega arith })
tag_found Two whole prefix parts x begin h =
    let six = bind_ok (next_line 6 parts) (λ six. at 6 (limited_in (codes "tag") (shortest_tag Two) (longest_tag Two) six.0) >>= λ size. Ok (size, six.1)) x h in
    let size = bind_ok (at 6 (limited_in (codes "tag") (shortest_tag Two) (longest_tag Two) six.0.0)) (λ size. Ok (size, six.0.1)) x six.2 in
    let said = limited_found (codes "tag") (shortest_tag Two) (longest_tag Two) six.0.0 size.0 (at_ok 6 (limited_in (codes "tag") (shortest_tag Two) (longest_tag Two) six.0.0) size.0 size.1) in
    let made : ℕ × List (List ℕ) = (size.0, six.0.1) in
    subst (λ (y : ℕ × List (List ℕ)). (whole ≡ (prefix ++ tag_line Two y.0) ++ join_with_byte 10 y.1) × IsTagLength Two y.0) (ok_is made x (Ok made) refl size.2) (more whole prefix 6 parts six.0 (codes "tag") (decimal size.0) begin six.1 said.0, record { shortest = said.1; longest = said.2 })

pub nothing_is : (text : List ℕ) → length text ≡ 0 → text ≡ []
nothing_is [] h = refl
nothing_is (b ∷ text) h = absurd (omega arith)

pub chains_found : (version : Version) (last number before : ℕ) (parts : List (List ℕ)) (rows : List ChainRow) → chains_judged version last number before parts ≡ Ok rows → (join_with_byte 10 parts ≡ flat_map chain_line rows) × AllByRecursion HasKey rows
unfolding chains_judged
chains_found version last number before [] rows h = absurd cc
chains_found version last number before (unended ∷ []) rows h =
    let l = last_ok (eqb (length unended) 0) (eqb number (first_line version)) (eqb number (end_line version)) number rows h in
    let none : length unended ≡ 0 = grind (arith, nat_tests, l.0) in
    rw (l.2, nothing_is unended none) (refl, tt)
chains_found version last number before (text ∷ next ∷ others) rows h =
    let g = guard_ok (eqb number (end_line version)) (number, TooManyChains) (at number (chain_in last before text) >>= λ row. chains_judged version last (number + 1) row.delay (next ∷ others) >>= λ rows. Ok (row ∷ rows)) rows h in
    let a = bind_ok (at number (chain_in last before text)) (λ row. chains_judged version last (number + 1) row.delay (next ∷ others) >>= λ rows. Ok (row ∷ rows)) rows g.1 in
    let b = bind_ok (chains_judged version last (number + 1) a.0.delay (next ∷ others)) (λ rows. Ok (a.0 ∷ rows)) rows a.2 in
    let one = row_found last before text a.0 (at_ok number (chain_in last before text) a.0 a.1) in
    let two = chains_found version last (number + 1) a.0.delay (next ∷ others) b.0 b.1 in
    let whole : (a.0 ∷ b.0) ≡ rows = ok_is (a.0 ∷ b.0) rows (Ok (a.0 ∷ b.0)) refl b.2 in
    let spelled : join_with_byte 10 (text ∷ next ∷ others) ≡ chain_line a.0 ++ flat_map chain_line b.0 = line_then text (codes "chain") (chain_values a.0) (join_with_byte 10 (next ∷ others)) one.0 ∙ ap (λ (r : List ℕ). chain_line a.0 ++ r) two.0 in
    subst (λ (rs : List ChainRow). (join_with_byte 10 (text ∷ next ∷ others) ≡ flat_map chain_line rs) × AllByRecursion HasKey rs) whole (spelled, (one.1, two.1))

abbrev pub head_text : Parts → List ℕ
head_text parts = times_text (opening_text parts.version parts.stream) parts.times ++ tag_line parts.version parts.tag_length

-- what a setup's lines are known to spell
pub record IsFound (whole : List ℕ) (parts : Parts) : Type 0 where
  pub text : whole ≡ head_text parts ++ flat_map chain_line parts.rows
  pub rows : rows_judged parts.version parts.times.last (first_line parts.version) 0 parts.rows ≡ Ok parts.rows
  pub keys : AllByRecursion HasKey parts.rows
  pub tag_length : IsTagLength parts.version parts.tag_length

rest_found : (version : Version) (stream : StreamId) (times : Times) (whole : List ℕ) (text : List (List ℕ)) (parts : Parts) → whole ≡ times_text (opening_text version stream) times ++ join_with_byte 10 text → rest_judged version stream times text ≡ Ok parts → (version ≡ parts.version) × (stream ≡ parts.stream) × (times ≡ parts.times) × IsFound whole parts
unfolding rest_judged
rest_found version stream times whole text parts begin h =
    let a = bind_ok (tag_judged version text) (λ tag. chains_judged version times.last (first_line version) 0 tag.1 >>= λ rows. Ok (record { version = version; stream = stream; times = times; tag_length = tag.0; rows = rows })) parts h in
    let b = bind_ok (chains_judged version times.last (first_line version) 0 a.0.1) (λ rows. Ok (record { version = version; stream = stream; times = times; tag_length = a.0.0; rows = rows })) parts a.2 in
    let made : Parts = record { version = version; stream = stream; times = times; tag_length = a.0.0; rows = b.0 } in
    let tag = tag_found version whole (times_text (opening_text version stream) times) text a.0 begin a.1 in
    let chains = chains_found version times.last (first_line version) 0 a.0.1 b.0 b.1 in
    let spelled : whole ≡ head_text made ++ flat_map chain_line b.0 = tag.0 ∙ ap (λ (r : List ℕ). head_text made ++ r) chains.0 in
    subst (λ (p : Parts). (version ≡ p.version) × (stream ≡ p.stream) × (times ≡ p.times) × IsFound whole p) (ok_is made parts (Ok made) refl b.2)
    (refl, refl, refl, record { text = spelled; rows = chains_are version times.last (first_line version) 0 a.0.1 b.0 b.1; keys = chains.1; tag_length = tag.1 })

pub judged_found : (text : List ℕ) (parts : Parts) → judged text ≡ Ok parts → IsSetup text parts
unfolding judged setup_text
judged_found text parts h =
    let g = guard_ok (ltb 4096 (length text)) (0, TooLong) (opening_judged (lines text) >>= λ opening. times_judged opening.2 >>= λ times. rest_judged opening.0 opening.1 times.0 times.1) parts h in
    let short : length text ≤ 4096 = grind (arith, nat_tests, g.0) in
    let a = bind_ok (opening_judged (lines text)) (λ opening. times_judged opening.2 >>= λ times. rest_judged opening.0 opening.1 times.0 times.1) parts g.1 in
    let b = bind_ok (times_judged a.0.2) (λ times. rest_judged a.0.0 a.0.1 times.0 times.1) parts a.2 in
    let opening = opening_found text (lines text) a.0 (sym (joined 10 text)) a.1 in
    let times = times_found text (opening_text a.0.0 a.0.1) a.0.2 b.0 opening.0 b.1 in
    let rest = rest_found a.0.0 a.0.1 b.0.0 text b.0.1 parts times.0 b.2 in
    let stream : parts.stream.0 < 2 ^ 64 = subst (λ (s : StreamId). s.0 < 2 ^ 64) rest.1 opening.1 in
    let start : parts.times.start < 2 ^ 64 = subst (λ (t : Times). t.start < 2 ^ 64) rest.2 times.2 in
    let limits : IsSchedule parts.times = subst IsSchedule rest.2 times.1 in
    record {
      limits = setup_is parts parts.rows stream start limits rest.3.tag_length rest.3.rows;
      keys = rest.3.keys;
      text = rest.3.text;
      short = short;
    }
