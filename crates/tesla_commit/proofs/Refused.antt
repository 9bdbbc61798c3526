-- What has the cause of a refusal is refused so.
use Rattle.std.proofs.Common.{◌≡◌, ◌≢◌, ◌⊎◌, ℕ, ◌-◌, ◌^◌, ◌<◌, ◌≤◌, true, false, List, [], ◌∷◌, Result, Ok, Err, refl, sym, ap, subst, ◌∙◌, inl, inr, arith}
use Rattle.std.specs.Prelude.{codes, decimal, nat_lt, nat_le}
use Rattle.std.specs.Str.{bytes_eq}
use Rattle.std.proofs.lemmas.Bool.Decides.{nat_tests}
use Rattle.hex.specs.Hex.{encode_lower}
use Rattle.tesla_commit.specs.JudgedLines.{within}
use Rattle.tesla_commit.specs.ChainRows.{row_judged}
use Rattle.tesla_commit.specs.Parsing.{words, value_in, chain_words, number_in, hex_in, title_in, stream_in, start_in, limited_in, chain_in}
use Rattle.tesla_commit.specs.SetupRefused.{IsNoDecimal, IsNoHex, IsOutside, WhyTitle, WhyStream, WhyNumber, HasWords, WhyChain}
use Rattle.tesla_commit.specs.declared.chain_row.ChainRow.{ChainRow}
use Rattle.tesla_commit.specs.declared.refusal.SetupKind.{SetupKind}
use Rattle.tesla_commit.specs.declared.refusal.SetupKind.TheVariants.{BadLine, BadNumber, BadHex, NoChain, TooManyChains, DelaysNotRising, IndexPastLast, LimitPassed, TooLong}
use Rattle.tesla_commit.proofs.Spelled.{title_found, number_found, within_found, hex_found}
use Rattle.tesla_commit.proofs.Spelling.{same_bytes, number_again, within_again, hex_again}
use Rattle.tesla_commit.proofs.Causes.{title_err, value_is, value_why, number_why, hex_why, within_why, words_why, words_are}

-- what can't be taken, and is refused with one kind alone, is refused with it
refused_by : {A : Type 0} (r : Result A SetupKind) (kind : SetupKind) → ((x : A) → r ≡ Ok x → ⊥) → ((k : SetupKind) → r ≡ Err k → kind ≡ k) → r ≡ Err kind
refused_by (Ok x) kind never same = absurd (never x refl)
refused_by (Err k) kind never same = ap Err (sym (same k refl))

-- ---- words

pub value_taken : (name word : List ℕ) (parts : List (List ℕ)) → parts ≡ name ∷ word ∷ [] → value_in name parts ≡ Ok word
value_taken name word parts h = rw (h, same_bytes name) refl

pub value_refused : (name : List ℕ) (parts : List (List ℕ)) → ((word : List ℕ) → parts ≢ name ∷ word ∷ []) → value_in name parts ≡ Err BadLine
value_refused name parts never = refused_by (value_in name parts) BadLine (λ w ok. never w (value_is name parts w ok)) (λ k e. (value_why name parts k e).0)

number_refused : (word : List ℕ) → IsNoDecimal word → number_in word ≡ Err BadNumber
number_refused word never = refused_by (number_in word) BadNumber (λ n ok. let f = number_found word n ok in never n f.1 f.0) (λ k e. (number_why word k e).0)

pub hex_refused : (count : ℕ) (word : List ℕ) → IsNoHex count word → hex_in count word ≡ Err BadHex
hex_refused count word never = refused_by (hex_in count word) BadHex (λ bytes ok. let f = hex_found count word bytes ok in never bytes f.whole f.fits f.text) (λ k e. (hex_why count word k e).0)

-- a number isn't both within limits and outside
not_outside : (least most n : ℕ) → IsOutside least most n → least ≤ n → n ≤ most → ⊥
not_outside least most n (inl below) low high = omega arith
not_outside least most n (inr above) low high = omega arith

within_refused : (least most n : ℕ) → IsOutside least most n → within least most n ≡ Err LimitPassed
within_refused least most n out =
    refused_by (within least most n) LimitPassed (λ m ok. let f = within_found least most n m ok in not_outside least most m (subst (λ (v : ℕ). IsOutside least most v) f.0 out) f.1 f.2) (λ k e. (within_why least most n k e).0)

-- ---- lines

pub title_refused : (kind : SetupKind) (line : List ℕ) → WhyTitle kind line → title_in line ≡ Err kind
title_refused BadLine line why = refused_by (title_in line) BadLine (λ version ok. why version (title_found line version ok)) (λ k e. (title_err (bytes_eq line (codes "tesla 1")) (bytes_eq line (codes "tesla 2")) k e).2)
title_refused _ line why = absurd why

pub stream_refused : (kind : SetupKind) (line : List ℕ) → WhyStream kind line → stream_in line ≡ Err kind
stream_refused BadLine line why = rw (value_refused (codes "stream") (words line) why) refl
stream_refused BadHex line why = rw (value_taken (codes "stream") why.0 (words line) why.1, hex_refused 8 why.0 why.2) refl
stream_refused _ line why = absurd why

pub limited_refused : (name : List ℕ) (least most : ℕ) (kind : SetupKind) (line : List ℕ) → WhyNumber name least most kind line → limited_in name least most line ≡ Err kind
limited_refused name least most BadLine line why = rw (value_refused name (words line) why) refl
limited_refused name least most BadNumber line why = rw (value_taken name why.0 (words line) why.1, number_refused why.0 why.2) refl
limited_refused name least most LimitPassed line why = rw (value_taken name (decimal why.0) (words line) why.2, number_again why.0 why.1) (within_refused least most why.0 why.3)
limited_refused name least most _ line why = absurd why

pub start_refused : (kind : SetupKind) (line : List ℕ) → WhyNumber (codes "start") 0 (2 ^ 64 - 1) kind line → start_in line ≡ Err kind
start_refused BadLine line why = rw (value_refused (codes "start") (words line) why) refl
start_refused BadNumber line why = rw (value_taken (codes "start") why.0 (words line) why.1) (number_refused why.0 why.2)
start_refused LimitPassed line why = let fits = why.1 in absurd (not_outside 0 (2 ^ 64 - 1) why.0 why.3 (omega arith) (omega arith))
start_refused _ line why = absurd why

-- ---- the line of a chain

words_taken : (line delay index key : List ℕ) → HasWords line delay index key → chain_words (words line) ≡ Ok (delay, index, key)
words_taken line delay index key h = ap chain_words h

words_refused : (line : List ℕ) → ((delay index key : List ℕ) → ¬ HasWords line delay index key) → chain_words (words line) ≡ Err BadLine
words_refused line never = refused_by (chain_words (words line)) BadLine (λ x ok. never x.0 x.1 x.2 (words_are line (words line) x refl ok)) (λ k e. (words_why (words line) k e).0)

-- a word is a number or is refused as none
number_or_not : (word : List ℕ) (r : Result ℕ SetupKind) → number_in word ≡ r → ((n : ℕ) × (number_in word ≡ Ok n)) ⊎ (number_in word ≡ Err BadNumber)
number_or_not word (Ok n) h = inl (n, h)
number_or_not word (Err k) h = inr (h ∙ ap Err (sym (number_why word k h).0))

-- a row whose delay doesn't rise is refused
not_rising : (last before : ℕ) (row : ChainRow) → 1 ≤ row.delay → row.delay ≤ 4096 → row.delay ≤ before → row_judged last before row ≡ Err DelaysNotRising
not_rising last before row low high behind =
    let a : nat_lt row.delay 1 ≡ false = grind (arith, nat_tests) in
    let b : nat_lt 4096 row.delay ≡ false = grind (arith, nat_tests) in
    let d : nat_le row.delay before ≡ true = grind (arith, nat_tests) in
    rw (a, b, d) refl

-- a row whose index is past the last interval is refused
past_last : (last before : ℕ) (row : ChainRow) → 1 ≤ row.delay → row.delay ≤ 4096 → before < row.delay → last < row.index → row_judged last before row ≡ Err IndexPastLast
past_last last before row low high above over =
    let a : nat_lt row.delay 1 ≡ false = grind (arith, nat_tests) in
    let b : nat_lt 4096 row.delay ≡ false = grind (arith, nat_tests) in
    let d : nat_le row.delay before ≡ false = grind (arith, nat_tests) in
    let e : nat_lt last row.index ≡ true = grind (arith, nat_tests) in
    rw (a, b, d, e) refl

-- a line of a chain with a word that is no number is refused
number_word_refused : (last before : ℕ) (line delay index key : List ℕ) → HasWords line delay index key → IsNoDecimal delay ⊎ IsNoDecimal index → chain_in last before line ≡ Err BadNumber
unfolding chain_in
number_word_refused last before line delay index key has (inl never) = rw (words_taken line delay index key has, number_refused delay never) refl
number_word_refused last before line delay index key has (inr never) =
    elim (number_or_not delay (number_in delay) refl) [
      | inl some ↦ rw (words_taken line delay index key has, some.1, number_refused index never) refl
      | inr none ↦ rw (words_taken line delay index key has, none) refl
    ]

-- a line of a chain is refused for its cause
pub chain_refused : (last before : ℕ) (kind : SetupKind) (line : List ℕ) → WhyChain last before kind line → chain_in last before line ≡ Err kind
unfolding chain_in
chain_refused last before BadLine line why = rw (words_refused line why) refl
chain_refused last before BadNumber line why = number_word_refused last before line why.0 why.1 why.2 why.3 why.4
chain_refused last before LimitPassed line why =
    rw (words_taken line (decimal why.0) (decimal why.1) why.2 why.3.0, number_again why.0 why.3.1, number_again why.1 why.3.2, within_refused 1 4096 why.0 why.4) refl
chain_refused last before BadHex line why =
    rw (words_taken line (decimal why.0) (decimal why.1) why.2 why.3.0, number_again why.0 why.3.1, number_again why.1 why.3.2, within_again 1 4096 why.0 why.4 why.5, hex_refused 32 why.2 why.6) refl
chain_refused last before DelaysNotRising line why =
    let is = why.3 in
    rw (words_taken line (decimal why.0) (decimal why.1) (encode_lower why.2) is.0.0, number_again why.0 is.0.1, number_again why.1 is.0.2, within_again 1 4096 why.0 is.1 is.2, hex_again 32 why.2 is.3 is.4) (not_rising last before (record { delay = why.0; index = why.1; key = record { 0 = why.2 } }) is.1 is.2 why.4)
chain_refused last before IndexPastLast line why =
    let is = why.3 in
    rw (words_taken line (decimal why.0) (decimal why.1) (encode_lower why.2) is.0.0, number_again why.0 is.0.1, number_again why.1 is.0.2, within_again 1 4096 why.0 is.1 is.2, hex_again 32 why.2 is.3 is.4) (past_last last before (record { delay = why.0; index = why.1; key = record { 0 = why.2 } }) is.1 is.2 why.4 why.5)
chain_refused last before NoChain line why = absurd why
chain_refused last before TooManyChains line why = absurd why
chain_refused last before TooLong line why = absurd why
