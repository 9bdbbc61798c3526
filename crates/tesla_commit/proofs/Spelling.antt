-- What is spelled so is read: from the parts of a setup to what its text is judged to say.
use Rattle.std.proofs.Common.{◌≡◌, ◌≢◌, ℕ, zero, suc, ◌+◌, ◌-◌, ◌/◌, ◌%◌, ◌^◌, ◌<◌, ◌≤◌, true, false, eqb, ltb, List, [], ◌∷◌, ◌++◌, length, Result, Ok, Err, refl, sym, ap, ◌∙◌, append_assoc, arith, inl, inr}
use Rattle.std.specs.Prelude.{slice_index, codes, decimal, nat_lt, nat_le, ◌&&◌}
use Rattle.std.specs.Int.{w64, to_be_bytes}
use Rattle.std.specs.List.{flat_map, list_all, All, AllByRecursion}
use Rattle.std.specs.Str.{bytes_eq}
use Rattle.std.proofs.lemmas.Bool.{cases_lt}
use Rattle.std.proofs.lemmas.Bool.Decides.{nat_tests}
use Rattle.std.proofs.lemmas.Fmt.{decimal_by_steps}
use Rattle.std.proofs.lemmas.List.Elements.{All-nil, All-cons, All-append, All-weaker}
use Rattle.std.proofs.lemmas.List.Splits.{slice_split_at, slice_split_none}
use Rattle.std.proofs.lemmas.List.Sums.{AllPass-from_list_all}
use Rattle.std.proofs.lemmas.Nat.{from_be_bytes-to_be_bytes_8}
use Rattle.std.proofs.lemmas.Slice.Eq.{bytes_eq-Decides}
use Rattle.hex.specs.Hex.{encode_lower, encode_with, lower_digits, IsBytes}
use Rattle.hex.proofs.HexLemmas.{decode_sized-encode_lower}
use Rattle.tesla_base.specs.Number.{decimal_of}
use Rattle.tesla_base.specs.declared.names.StreamId.{StreamId}
use Rattle.tesla_base.specs.Version.{longest_tag, IsTagLength}
use Rattle.tesla_base.specs.declared.version.Version.{Version}
use Rattle.tesla_base.specs.declared.version.Version.TheVariants.{One, Two}
use Rattle.tesla_base.proofs.Spellings.{number_read}
use Rattle.tesla_clock.specs.Schedule.{Times, IsSchedule}
use Rattle.std.specs.Prelude.{IfOk, ◌⊎◌}
use Rattle.tesla_commit.specs.declared.refusal.SetupRefusal.{SetupRefusal}
use Rattle.tesla_commit.specs.declared.refusal.SetupRefusal.TheVariants as refusals
use Rattle.tesla_commit.specs.JudgedLines.{within, Answers}
use Rattle.tesla_commit.specs.Parts.{Parts, IsSetupOf}
use Rattle.tesla_commit.specs.ChainRows.{first_line, end_line}
use Rattle.tesla_commit.specs.Parsing.{between, lines, words, next_line, value_in, chain_words, number_or_bad, number_in, is_lower_digit, hex_in, title_in, stream_in, start_in, limited_in, chain_in, chains_judged, opening_judged, times_judged, tag_judged, rest_judged, judged}
use Rattle.tesla_commit.specs.SetupText.{line, version_text, tag_line, chain_values, chain_line, setup_text, HasKey, IsSetup}
use Rattle.tesla_commit.specs.declared.chain_row.ChainRow.{ChainRow}
use Rattle.tesla_commit.specs.declared.refusal.SetupKind.{SetupKind}
use Rattle.tesla_commit.proofs.RowLaws.{AreRows, IsNext, ok_is, not_line, row_again, rise_again}
use Rattle.tesla_commit.proofs.WordLaws.{has_first, next_line_is, lines_of_nothing}
use Rattle.tesla_commit.proofs.Spelled.{lower_low, lower_high, judged_found}

-- no byte of a word is a space or an LF
abbrev pub IsSolid : List ℕ → Type 0
IsSolid word = All (λ b. 32 < b) word

-- no byte of a line is an LF
abbrev pub IsPlain : List ℕ → Type 0
IsPlain text = All (λ b. 10 < b) text

pub solid_from_test : (word : List ℕ) → list_all (nat_lt 32) word ≡ true → IsSolid word
solid_from_test word h = All-weaker (λ b. nat_lt 32 b ≡ true) (λ b. 32 < b) (λ b t. grind (arith, nat_tests)) word (AllPass-from_list_all (nat_lt 32) word h)

pub plain_is : (word : List ℕ) → IsSolid word → IsPlain word
plain_is word h = All-weaker (λ b. 32 < b) (λ b. 10 < b) (λ b t. omega arith) word h

pub plain_line : (name value : List ℕ) → IsPlain name → IsPlain value → IsPlain (name ++ 32 ∷ value)
plain_line name value h k = All-append (λ b. 10 < b) name (32 ∷ value) h (All-cons (λ b. 10 < b) 32 value (omega arith) k)

-- ---- lines and words

pub split_line : (text rest : List ℕ) → IsPlain text → between 10 (text ++ 10 ∷ rest) ≡ text ∷ between 10 rest
unfolding between
split_line text rest h = slice_split_at (λ b. eqb b 10) text 10 rest (All-weaker (λ b. 10 < b) (λ b. eqb b 10 ≡ false) (λ b t. grind (arith, nat_tests)) text h) refl

split_word : (word rest : List ℕ) → IsSolid word → between 32 (word ++ 32 ∷ rest) ≡ word ∷ between 32 rest
unfolding between
split_word word rest h = slice_split_at (λ b. eqb b 32) word 32 rest (All-weaker (λ b. 32 < b) (λ b. eqb b 32 ≡ false) (λ b t. grind (arith, nat_tests)) word h) refl

last_word : (word : List ℕ) → IsSolid word → between 32 word ≡ word ∷ []
unfolding between
last_word word h = slice_split_none (λ b. eqb b 32) word (All-weaker (λ b. 32 < b) (λ b. eqb b 32 ≡ false) (λ b t. grind (arith, nat_tests)) word h)

pub lines_of : (name value rest : List ℕ) → IsPlain (name ++ 32 ∷ value) → lines (line name value ++ rest) ≡ (name ++ 32 ∷ value) ∷ lines rest
lines_of name value rest h = ap lines (append_assoc (name ++ 32 ∷ value) (10 ∷ []) rest) ∙ split_line (name ++ 32 ∷ value) rest h

pub line_again : (number : ℕ) (name value rest : List ℕ) → IsPlain (name ++ 32 ∷ value) → next_line number (lines (line name value ++ rest)) ≡ Ok (name ++ 32 ∷ value, lines rest)
line_again number name value rest h = next_line_is number (line name value ++ rest) (name ++ 32 ∷ value) rest (lines_of name value rest h)

pub same_bytes : (word : List ℕ) → bytes_eq word word ≡ true
same_bytes word = (bytes_eq-Decides word word).1 refl

pub value_again : (name value : List ℕ) → IsSolid name → IsSolid value → value_in name (words (name ++ 32 ∷ value)) ≡ Ok value
value_again name value h k = rw (split_word name value h, last_word value k, same_bytes name) refl

chain_again : (delay index key : List ℕ) → IsSolid delay → IsSolid index → IsSolid key → chain_words (words (codes "chain" ++ 32 ∷ (delay ++ 32 ∷ index ++ 32 ∷ key))) ≡ Ok (delay, index, key)
chain_again delay index key d i k =
    let name = solid_from_test (codes "chain") refl in
    let whole : words (codes "chain" ++ 32 ∷ (delay ++ 32 ∷ index ++ 32 ∷ key)) ≡ codes "chain" ∷ delay ∷ index ∷ key ∷ [] =
    split_word (codes "chain") (delay ++ 32 ∷ index ++ 32 ∷ key) name
    ∙ ap (λ (ws : List (List ℕ)). codes "chain" ∷ ws) (ap words (append_assoc delay (32 ∷ index) (32 ∷ key)) ∙ split_word delay (index ++ 32 ∷ key) d
    ∙ ap (λ (ws : List (List ℕ)). delay ∷ ws) (split_word index key i ∙ ap (λ (ws : List (List ℕ)). index ∷ ws) (last_word key k))) in
    ap chain_words whole

-- ---- values

decimal_again : (n : ℕ) → n < 2 ^ 64 → decimal_of (decimal n) ≡ Ok n
unfolding decimal_of
decimal_again n fits = number_read (2 ^ 64 - 1) 0 n (decimal n) (omega arith) fits refl

pub number_again : (n : ℕ) → n < 2 ^ 64 → number_in (decimal n) ≡ Ok n
number_again n fits = ap number_or_bad (decimal_again n fits)

pub within_again : (least most n : ℕ) → least ≤ n → n ≤ most → within least most n ≡ Ok n
within_again least most n low high =
    let t : (nat_le least n && nat_le n most) ≡ true = grind (arith, nat_tests) in
    rw t refl

solid_decimal : (n : ℕ) → n < 2 ^ 64 → IsSolid (decimal n)
solid_decimal n fits =
    decimal_by_steps (λ m ds. IsSolid ds) (λ m lt. All-cons (λ b. 32 < b) (48 + m) [] (omega arith) (All-nil (λ b. 32 < b))) (λ m ds ge h. All-append (λ b. 32 < b) ds ((48 + m % 10) ∷ []) h (All-cons (λ b. 32 < b) (48 + m % 10) [] (omega arith) (All-nil (λ b. 32 < b)))) n fits

lower_digit : (v : ℕ) → v < 16 → is_lower_digit (slice_index lower_digits v) ≡ true
lower_digit v h =
    elim (cases_lt v 10) [
      | inl lt ↦ rw (lower_low v lt) (grind (arith, nat_tests))
      | inr le ↦
          let offset : v ≡ 10 + (v - 10) = omega arith in
          let digit : slice_index lower_digits v ≡ 97 + (v - 10) = ap (λ (k : ℕ). slice_index lower_digits k) offset ∙ lower_high (v - 10) (omega arith) in
          rw digit (grind (arith, nat_tests))
    ]

lower_all : (bytes : List ℕ) → IsBytes bytes → list_all is_lower_digit (encode_lower bytes) ≡ true
unfolding encode_with
lower_all [] h = refl
lower_all (b ∷ bytes) h =
    let fits : b < 256 = h 0 in
    let high = lower_digit (b / 16) (omega arith) in
    let low = lower_digit (b % 16) (omega arith) in
    rw (high, low, lower_all bytes (λ i. h (suc i))) refl

pub hex_again : (count : ℕ) (bytes : List ℕ) → length bytes ≡ count → IsBytes bytes → hex_in count (encode_lower bytes) ≡ Ok bytes
hex_again count bytes whole fits = rw (lower_all bytes fits, decode_sized-encode_lower bytes count whole fits) refl

pub solid_hex : (bytes : List ℕ) → IsBytes bytes → IsSolid (encode_lower bytes)
solid_hex bytes fits = All-weaker (λ b. is_lower_digit b ≡ true) (λ b. 32 < b) (λ b t. grind (arith, nat_tests)) (encode_lower bytes) (AllPass-from_list_all is_lower_digit (encode_lower bytes) (lower_all bytes fits))

-- ---- the whole text

eight_fit : (n : ℕ) → IsBytes (to_be_bytes w64 n)
eight_fit n zero = omega arith
eight_fit n (suc zero) = omega arith
eight_fit n (suc (suc zero)) = omega arith
eight_fit n (suc (suc (suc zero))) = omega arith
eight_fit n (suc (suc (suc (suc zero)))) = omega arith
eight_fit n (suc (suc (suc (suc (suc zero))))) = omega arith
eight_fit n (suc (suc (suc (suc (suc (suc zero)))))) = omega arith
eight_fit n (suc (suc (suc (suc (suc (suc (suc zero))))))) = omega arith
eight_fit n (suc (suc (suc (suc (suc (suc (suc (suc i)))))))) = omega arith

pub stream_again : (stream : StreamId) → stream.0 < 2 ^ 64 → stream_in (codes "stream" ++ 32 ∷ encode_lower (to_be_bytes w64 stream.0)) ≡ Ok stream
stream_again stream fits =
    let bytes = to_be_bytes w64 stream.0 in
    let value = value_again (codes "stream") (encode_lower bytes) (solid_from_test (codes "stream") refl) (solid_hex bytes (eight_fit stream.0)) in
    let hex = hex_again 8 bytes refl (eight_fit stream.0) in
    rw (value, hex) (ap (λ (n : ℕ). Ok (record { 0 = n })) (from_be_bytes-to_be_bytes_8 stream.0 fits))

pub start_again : (n : ℕ) → n < 2 ^ 64 → start_in (codes "start" ++ 32 ∷ decimal n) ≡ Ok n
start_again n fits = rw (value_again (codes "start") (decimal n) (solid_from_test (codes "start") refl) (solid_decimal n fits)) (number_again n fits)

pub limited_again : (name : List ℕ) (least most n : ℕ) → IsSolid name → n < 2 ^ 64 → least ≤ n → n ≤ most → limited_in name least most (name ++ 32 ∷ decimal n) ≡ Ok n
limited_again name least most n solid fits low high = rw (value_again name (decimal n) solid (solid_decimal n fits), number_again n fits) (within_again least most n low high)

plain_decimal : (name : List ℕ) (n : ℕ) → IsSolid name → n < 2 ^ 64 → IsPlain (name ++ 32 ∷ decimal n)
plain_decimal name n solid fits = plain_line name (decimal n) (plain_is name solid) (plain_is (decimal n) (solid_decimal n fits))

solid_version : (version : Version) → IsSolid (version_text version)
solid_version One = solid_from_test (codes "1") refl
solid_version Two = solid_from_test (codes "2") refl

pub title_again : (version : Version) → title_in (codes "tesla" ++ 32 ∷ version_text version) ≡ Ok version
title_again One = refl
title_again Two = refl

opening_again : (version : Version) (stream : StreamId) (rest : List ℕ) → stream.0 < 2 ^ 64 → opening_judged (lines (line (codes "tesla") (version_text version) ++ (line (codes "stream") (encode_lower (to_be_bytes w64 stream.0)) ++ rest))) ≡ Ok (version, stream, lines rest)
unfolding opening_judged
opening_again version stream rest fits =
    let bytes = to_be_bytes w64 stream.0 in
    let value = encode_lower bytes in
    let after = line (codes "stream") value ++ rest in
    let title = plain_is (codes "tesla") (solid_from_test (codes "tesla") refl) in
    let one = line_again 1 (codes "tesla") (version_text version) after (plain_line (codes "tesla") (version_text version) title (plain_is (version_text version) (solid_version version))) in
    let two = line_again 2 (codes "stream") value rest (plain_line (codes "stream") value (plain_is (codes "stream") (solid_from_test (codes "stream") refl)) (plain_is value (solid_hex bytes (eight_fit stream.0)))) in
    rw (one, title_again version, two, stream_again stream fits) refl

times_again : (times : Times) (rest : List ℕ) → IsSchedule times → times.start < 2 ^ 64 → times_judged (lines (line (codes "start") (decimal times.start) ++ (line (codes "interval") (decimal times.length) ++ (line (codes "last") (decimal times.last) ++ rest)))) ≡ Ok (times, lines rest)
unfolding times_judged
times_again times rest limits fits =
    let shortest = limits.shortest in
    let longest = limits.longest in
    let first = limits.first in
    let most = limits.most in
    let span_fits : times.length < 2 ^ 64 = omega arith in
    let last_fits : times.last < 2 ^ 64 = omega arith in
    let start = solid_from_test (codes "start") refl in
    let interval = solid_from_test (codes "interval") refl in
    let last = solid_from_test (codes "last") refl in
    let five_on = line (codes "last") (decimal times.last) ++ rest in
    let four_on = line (codes "interval") (decimal times.length) ++ five_on in
    let three = line_again 3 (codes "start") (decimal times.start) four_on (plain_decimal (codes "start") times.start start fits) in
    let four = line_again 4 (codes "interval") (decimal times.length) five_on (plain_decimal (codes "interval") times.length interval span_fits) in
    let five = line_again 5 (codes "last") (decimal times.last) rest (plain_decimal (codes "last") times.last last last_fits) in
    rw (three, start_again times.start fits, four, limited_again (codes "interval") 1000 3600000000 times.length interval span_fits shortest longest, five, limited_again (codes "last") 1 1048576 times.last last last_fits first most) refl

tag_again : (version : Version) (size : ℕ) (rest : List ℕ) → IsTagLength version size → tag_judged version (lines (tag_line version size ++ rest)) ≡ Ok (size, lines rest)
unfolding tag_judged
tag_again One size rest limits =
    let shortest = limits.shortest in
    let longest = limits.longest in
    let same : longest_tag One ≡ size = omega arith in
    ap (λ (n : ℕ). Ok (n, lines rest)) same
tag_again Two size rest limits =
    let longest = limits.longest in
    let fits : size < 2 ^ 64 = omega arith in
    let tag = solid_from_test (codes "tag") refl in
    let six = line_again 6 (codes "tag") (decimal size) rest (plain_decimal (codes "tag") size tag fits) in
    rw (six, limited_again (codes "tag") 10 32 size tag fits limits.shortest longest) refl

pub row_line_again : (last before : ℕ) (row : ChainRow) → last < 2 ^ 64 → IsNext last before row → HasKey row → chain_in last before (codes "chain" ++ 32 ∷ chain_values row) ≡ Ok row
unfolding chain_in
row_line_again last before row most next key =
    let within_last = next.limits.within in
    let longest = next.limits.longest in
    let delay_fits : row.delay < 2 ^ 64 = omega arith in
    let index_fits : row.index < 2 ^ 64 = omega arith in
    let said = chain_again (decimal row.delay) (decimal row.index) (encode_lower row.key.0) (solid_decimal row.delay delay_fits) (solid_decimal row.index index_fits) (solid_hex row.key.0 key.bytes) in
    rw (said, number_again row.delay delay_fits, number_again row.index index_fits, within_again 1 4096 row.delay next.limits.shortest longest, hex_again 32 row.key.0 key.whole key.bytes) (row_again last before row next)

plain_row : (row : ChainRow) → row.delay < 2 ^ 64 → row.index < 2 ^ 64 → HasKey row → IsPlain (codes "chain" ++ 32 ∷ chain_values row)
plain_row row delay index key =
    plain_line (codes "chain") (chain_values row) (plain_is (codes "chain") (solid_from_test (codes "chain") refl)) (plain_line (decimal row.delay ++ 32 ∷ decimal row.index) (encode_lower row.key.0) (plain_line (decimal row.delay) (decimal row.index) (plain_is (decimal row.delay) (solid_decimal row.delay delay)) (plain_is (decimal row.index) (solid_decimal row.index index))) (plain_is (encode_lower row.key.0) (solid_hex row.key.0 key.bytes)))

one_chain : (version : Version) (last number before : ℕ) (text : List ℕ) (row : ChainRow) (rows : List ChainRow) (parts : List (List ℕ)) (first : List ℕ) (others : List (List ℕ)) → number ≢ end_line version → parts ≡ first ∷ others → chain_in last before text ≡ Ok row → chains_judged version last (number + 1) row.delay parts ≡ Ok rows → chains_judged version last number before (text ∷ parts) ≡ Ok (row ∷ rows)
unfolding chains_judged
one_chain version last number before text row rows parts first others ne split one more =
    let test = not_line number (end_line version) ne in
    let onward : chains_judged version last (number + 1) row.delay (first ∷ others) ≡ Ok rows = ap (chains_judged version last (number + 1) row.delay) (sym split) ∙ more in
    rw (split, test, one, onward) refl

no_chain : (version : Version) (last number before : ℕ) → number ≢ first_line version → chains_judged version last number before ([] ∷ []) ≡ Ok []
unfolding chains_judged
no_chain version last number before ne =
    let test = not_line number (first_line version) ne in
    rw test refl

chains_again : (version : Version) (last number before : ℕ) (rows : List ChainRow) → last < 2 ^ 64 → AreRows version last number before rows → AllByRecursion HasKey rows → chains_judged version last number before (lines (flat_map chain_line rows)) ≡ Ok rows
chains_again version last number before [] most are keys =
    let some = are.some in
    let ne : number ≢ first_line version = omega arith in
    ap (chains_judged version last number before) (lines_of_nothing [] refl) ∙ no_chain version last number before ne
chains_again version last number before (row ∷ rows) most are keys =
    let few = are.few in
    let some = are.some in
    let ne : number ≢ end_line version = omega arith in
    let longest = are.each.0.longest in
    let within_last = are.each.0.within in
    let rest = flat_map chain_line rows in
    let f = has_first 10 rest in
    let one = row_line_again last before row most (record { limits = are.each.0; above = are.rise.0 }) keys.0 in
    let more = chains_again version last (number + 1) row.delay rows most (record { some = omega arith; few = omega arith; each = are.each.1; rise = are.rise.1 }) keys.1 in
    ap (chains_judged version last number before) (lines_of (codes "chain") (chain_values row) rest (plain_row row (omega arith) (omega arith) keys.0))
    ∙ one_chain version last number before (codes "chain" ++ 32 ∷ chain_values row) row rows (lines rest) f.0 f.1 ne f.2 one more

regrouped : (a b c d e f g : List ℕ) → (((((a ++ b) ++ c) ++ d) ++ e) ++ f) ++ g ≡ a ++ (b ++ (c ++ (d ++ (e ++ (f ++ g)))))
regrouped a b c d e f g = simp append_assoc

rest_again : (parts : Parts) → IsSetupOf parts → AllByRecursion HasKey parts.rows → rest_judged parts.version parts.stream parts.times (lines (tag_line parts.version parts.tag_length ++ flat_map chain_line parts.rows)) ≡ Ok parts
unfolding rest_judged
rest_again parts limits keys =
    let most = limits.times.most in
    let some = limits.some in
    let few = limits.few in
    let tag = tag_again parts.version parts.tag_length (flat_map chain_line parts.rows) limits.tag_length in
    let chains = chains_again parts.version parts.times.last (first_line parts.version) 0 parts.rows (omega arith) (record { some = omega arith; few = omega arith; each = limits.each; rise = rise_again parts.times.last parts.rows limits.each limits.rise }) keys in
    rw (tag, chains) refl

whole_again : (text : List ℕ) (parts : Parts) → length text ≤ 4096 → text ≡ line (codes "tesla") (version_text parts.version) ++ (line (codes "stream") (encode_lower (to_be_bytes w64 parts.stream.0)) ++ (line (codes "start") (decimal parts.times.start) ++ (line (codes "interval") (decimal parts.times.length) ++ (line (codes "last") (decimal parts.times.last) ++ (tag_line parts.version parts.tag_length ++ flat_map chain_line parts.rows))))) → IsSetupOf parts → AllByRecursion HasKey parts.rows → judged text ≡ Ok parts
unfolding judged
whole_again text parts short spelled limits keys =
    let rest = tag_line parts.version parts.tag_length ++ flat_map chain_line parts.rows in
    let times_on = line (codes "start") (decimal parts.times.start) ++ (line (codes "interval") (decimal parts.times.length) ++ (line (codes "last") (decimal parts.times.last) ++ rest)) in
    let test : ltb 4096 (length text) ≡ false = grind (arith, nat_tests) in
    let opening : opening_judged (lines text) ≡ Ok (parts.version, parts.stream, lines times_on) = ap (λ (t : List ℕ). opening_judged (lines t)) spelled ∙ opening_again parts.version parts.stream times_on limits.stream in
    rw (test, opening, times_again parts.times rest limits.times limits.start) (rest_again parts limits keys)

pub judged_again : (text : List ℕ) (parts : Parts) → IsSetup text parts → judged text ≡ Ok parts
unfolding setup_text
judged_again text parts h = whole_again text parts h.short (h.text ∙ regrouped (line (codes "tesla") (version_text parts.version)) (line (codes "stream") (encode_lower (to_be_bytes w64 parts.stream.0))) (line (codes "start") (decimal parts.times.start)) (line (codes "interval") (decimal parts.times.length)) (line (codes "last") (decimal parts.times.last)) (tag_line parts.version parts.tag_length) (flat_map chain_line parts.rows)) h.limits h.keys

-- ---- what is answered of a text

pub answer_found : (text : List ℕ) (r : Result Parts SetupRefusal) → Answers (λ setup. setup) r (judged text) → IfOk r (λ setup. IsSetup text setup)
answer_found text (Ok setup) h = judged_found text setup h
answer_found text (Err e) h = tt

not_both : (parts : Parts) (e : ℕ × SetupKind) (r : Result Parts (ℕ × SetupKind)) → r ≡ Err e → r ≡ Ok parts → ⊥
not_both parts e r h k = cc

pub answer_only : (text : List ℕ) (r : Result Parts SetupRefusal) (parts : Parts) → Answers (λ setup. setup) r (judged text) → IsSetup text parts → r ≡ Ok parts
answer_only text (Ok setup) parts h k = ap Ok (ok_is setup parts (judged text) h (judged_again text parts k))
answer_only text (Err (refusals.At number kind)) parts h k = absurd (not_both parts (number, kind) (judged text) h (judged_again text parts k))
answer_only text (Err refusals.NoMemory) parts h k = absurd h
