-- Why a word or a line is refused.
use Rattle.std.proofs.Common.{◌≡◌, ◌≢◌, ◌⊎◌, ℕ, ◌-◌, ◌^◌, ◌<◌, ◌≤◌, Bool, true, false, cond, List, [], ◌∷◌, Result, Ok, Err, refl, ap, subst, ◌∙◌, inl, inr, arith}
use Rattle.std.specs.Prelude.{codes, decimal, nat_lt, nat_le, ◌&&◌, ◌||◌}
use Rattle.std.specs.Int.{w64, from_be_bytes}
use Rattle.std.specs.List.{list_all}
use Rattle.std.specs.Str.{bytes_eq}
use Rattle.std.proofs.lemmas.Bool.{cases_lt}
use Rattle.std.proofs.lemmas.Bool.Decides.{nat_tests}
use Rattle.std.proofs.lemmas.Slice.Eq.{bytes_eq-Decides}
use Rattle.hex.specs.Hex.{encode_lower, decode_sized}
use Rattle.hex.specs.declared.error.FromHexError.{FromHexError}
use Rattle.tesla_base.specs.Number.{decimal_of}
use Rattle.tesla_base.specs.declared.number.NumberFault.{NumberFault}
use Rattle.tesla_base.specs.declared.version.Version.{Version}
use Rattle.tesla_base.specs.declared.version.Version.TheVariants.{One, Two}
use Rattle.tesla_commit.specs.JudgedLines.{◌>>=◌, within}
use Rattle.tesla_commit.specs.ChainRows.{row_judged}
use Rattle.tesla_commit.specs.Parsing.{words, value_in, chain_words, number_or_bad, number_in, is_lower_digit, bytes_or_bad, hex_in, title_in, stream_in, start_in, limited_in, chain_in}
use Rattle.tesla_commit.specs.SetupRefused.{IsNoDecimal, IsNoHex, IsOutside, title, WhyTitle, WhyStream, WhyNumber, HasWords, HasNumbers, SpellsChain, WhyChain}
use Rattle.tesla_commit.specs.declared.chain_row.ChainRow.{ChainRow}
use Rattle.tesla_commit.specs.declared.refusal.SetupKind.{SetupKind}
use Rattle.tesla_commit.specs.declared.refusal.SetupKind.TheVariants.{BadLine, BadNumber, BadHex, DelaysNotRising, IndexPastLast, LimitPassed}
use Rattle.tesla_commit.proofs.Spelled.{test_ok, number_found, within_found, hex_found}
use Rattle.tesla_commit.proofs.Spelling.{number_again, hex_again}

pub err_is : {A E : Type 0} (x y : E) (r : Result A E) → r ≡ Err x → r ≡ Err y → x ≡ y
err_is x y r h k = cc

-- the refusal of two steps is that of the first, or of the second behind what the first gave
pub by_steps : {A B E : Type 0} (P : E → Type 0) (r : Result A E) (f : A → Result B E) (e : E) → ((d : E) → r ≡ Err d → P d) → ((x : A) → r ≡ Ok x → (d : E) → f x ≡ Err d → P d) → (r >>= f) ≡ Err e → P e
by_steps P (Ok x) f e h k refused = k x refl e refused
by_steps {B = B} P (Err d) f e h k refused = h e (ap Err (err_is {A = B} d e (Err d) refl refused))

pub never : {A E : Type 0} (x : A) (e : E) (r : Result A E) → r ≡ Ok x → r ≡ Err e → ⊥
never x e r h k = cc

pub not_both : (b : Bool) → b ≡ true → b ≡ false → ⊥
not_both b h k = cc

-- a test that refuses with one kind
pub test_err : {A : Type 0} (b : Bool) (x : A) (one kind : SetupKind) → cond b (Ok x) (Err one) ≡ Err kind → (b ≡ false) × (one ≡ kind)
test_err true x one kind h = absurd (never x kind (Ok x) refl h)
test_err {A = A} false x one kind h = (refl, err_is {A = A} one kind (Err one) refl h)

-- the first of equal lists
first_is : (a : List ℕ) (more : List (List ℕ)) (b : List ℕ) (others : List (List ℕ)) → a ∷ more ≡ b ∷ others → a ≡ b
first_is a more b others h = cc

-- ---- words

pub value_why : (name : List ℕ) (parts : List (List ℕ)) (kind : SetupKind) → value_in name parts ≡ Err kind → (BadLine ≡ kind) × ((word : List ℕ) → parts ≢ name ∷ word ∷ [])
value_why name [] kind h = (err_is BadLine kind (value_in name []) refl h, λ word e. cc)
value_why name (first ∷ []) kind h = (err_is BadLine kind (value_in name (first ∷ [])) refl h, λ word e. cc)
value_why name (first ∷ value ∷ []) kind h =
    let t = test_err (bytes_eq first name) value BadLine kind h in
    (t.1, λ word e. let same : first ≡ name = cc in not_both (bytes_eq first name) ((bytes_eq-Decides first name).1 same) t.0)
value_why name (first ∷ value ∷ more ∷ others) kind h = (err_is BadLine kind (value_in name (first ∷ value ∷ more ∷ others)) refl h, λ word e. cc)

pub value_is : (name : List ℕ) (parts : List (List ℕ)) (word : List ℕ) → value_in name parts ≡ Ok word → parts ≡ name ∷ word ∷ []
value_is name [] word h = absurd cc
value_is name (first ∷ []) word h = absurd cc
value_is name (first ∷ value ∷ []) word h =
    let t = test_ok (bytes_eq first name) value word h in
    let same : first ≡ name = (bytes_eq-Decides first name).0 t.0 in
    rw (same, t.1) refl
value_is name (first ∷ value ∷ more ∷ others) word h = absurd cc

number_kind : (r : Result ℕ NumberFault) (kind : SetupKind) → number_or_bad r ≡ Err kind → BadNumber ≡ kind
number_kind (Ok n) kind h = absurd cc
number_kind (Err fault) kind h = err_is BadNumber kind (number_or_bad (Err fault)) refl h

pub number_why : (word : List ℕ) (kind : SetupKind) → number_in word ≡ Err kind → (BadNumber ≡ kind) × IsNoDecimal word
number_why word kind h =
    (number_kind (decimal_of word) kind h, λ n fits e. never n kind (number_in word) (ap number_in e ∙ number_again n fits) h)

hex_kind : (b : Bool) (r : Result (List ℕ) FromHexError) (kind : SetupKind) → cond b (bytes_or_bad r) (Err BadHex) ≡ Err kind → BadHex ≡ kind
hex_kind true (Ok bytes) kind h = absurd cc
hex_kind true (Err fault) kind h = err_is BadHex kind (bytes_or_bad (Err fault)) refl h
hex_kind false r kind h = err_is {A = List ℕ} BadHex kind (Err BadHex) refl h

pub hex_why : (count : ℕ) (word : List ℕ) (kind : SetupKind) → hex_in count word ≡ Err kind → (BadHex ≡ kind) × IsNoHex count word
hex_why count word kind h =
    (hex_kind (list_all is_lower_digit word) (decode_sized word count) kind h, λ bytes whole fits e. never bytes kind (hex_in count word) (ap (hex_in count) e ∙ hex_again count bytes whole fits) h)

pub within_why : (least most n : ℕ) (kind : SetupKind) → within least most n ≡ Err kind → (LimitPassed ≡ kind) × IsOutside least most n
within_why least most n kind h =
    let t = test_err (nat_le least n && nat_le n most) n LimitPassed kind h in (
      t.1,
      elim (cases_lt n least) [
        | inl below ↦ inl below
        | inr ge ↦ inr (grind (arith, nat_tests, t.0))
      ],
    )

-- ---- lines

-- two tests that refuse with one kind
pub title_err : (b c : Bool) (kind : SetupKind) → cond b (Ok One) (cond c (Ok Two) (Err BadLine)) ≡ Err kind → (b ≡ false) × (c ≡ false) × (BadLine ≡ kind)
title_err true c kind h = absurd cc
title_err false true kind h = absurd cc
title_err false false kind h = (refl, refl, err_is {A = Version} BadLine kind (Err BadLine) refl h)

no_title : (line : List ℕ) → bytes_eq line (codes "tesla 1") ≡ false → bytes_eq line (codes "tesla 2") ≡ false → (version : Version) → line ≢ title version
no_title line one two One e = not_both (bytes_eq line (codes "tesla 1")) ((bytes_eq-Decides line (codes "tesla 1")).1 e) one
no_title line one two Two e = not_both (bytes_eq line (codes "tesla 2")) ((bytes_eq-Decides line (codes "tesla 2")).1 e) two

pub title_why : (line : List ℕ) (kind : SetupKind) → title_in line ≡ Err kind → WhyTitle kind line
title_why line kind h =
    let t = title_err (bytes_eq line (codes "tesla 1")) (bytes_eq line (codes "tesla 2")) kind h in
    let why : WhyTitle BadLine line = no_title line t.0 t.1 in
    subst (λ (k : SetupKind). WhyTitle k line) t.2 why

stream_hex_why : (line word : List ℕ) (kind : SetupKind) → words line ≡ codes "stream" ∷ word ∷ [] → hex_in 8 word ≡ Err kind → WhyStream kind line
stream_hex_why line word kind said h =
    let x = hex_why 8 word kind h in
    let why : WhyStream BadHex line = (word, said, x.1) in
    subst (λ (k : SetupKind). WhyStream k line) x.0 why

pub stream_why : (line : List ℕ) (kind : SetupKind) → stream_in line ≡ Err kind → WhyStream kind line
stream_why line kind h =
    by_steps (λ (k : SetupKind). WhyStream k line) (value_in (codes "stream") (words line)) (λ word. hex_in 8 word >>= λ bytes. Ok (record { 0 = from_be_bytes w64 bytes })) kind
    (λ d refused. let v = value_why (codes "stream") (words line) d refused in let why : WhyStream BadLine line = v.1 in subst (λ (k : SetupKind). WhyStream k line) v.0 why)
    (λ word said d refused.
    by_steps (λ (k : SetupKind). WhyStream k line) (hex_in 8 word) (λ bytes. Ok (record { 0 = from_be_bytes w64 bytes })) d
    (λ k last. stream_hex_why line word k (value_is (codes "stream") (words line) word said) last)
    (λ bytes ok k last. absurd cc)
    refused)
    h

value_line_why : (name : List ℕ) (least most : ℕ) (line : List ℕ) (kind : SetupKind) → value_in name (words line) ≡ Err kind → WhyNumber name least most kind line
value_line_why name least most line kind h =
    let v = value_why name (words line) kind h in
    let why : WhyNumber name least most BadLine line = v.1 in
    subst (λ (k : SetupKind). WhyNumber name least most k line) v.0 why

number_line_why : (name : List ℕ) (least most : ℕ) (line word : List ℕ) (kind : SetupKind) → value_in name (words line) ≡ Ok word → number_in word ≡ Err kind → WhyNumber name least most kind line
number_line_why name least most line word kind said h =
    let x = number_why word kind h in
    let why : WhyNumber name least most BadNumber line = (word, value_is name (words line) word said, x.1) in
    subst (λ (k : SetupKind). WhyNumber name least most k line) x.0 why

pub start_why : (line : List ℕ) (kind : SetupKind) → start_in line ≡ Err kind → WhyNumber (codes "start") 0 (2 ^ 64 - 1) kind line
start_why line kind h =
    by_steps (λ (k : SetupKind). WhyNumber (codes "start") 0 (2 ^ 64 - 1) k line) (value_in (codes "start") (words line)) (λ word. number_in word) kind
    (λ d refused. value_line_why (codes "start") 0 (2 ^ 64 - 1) line d refused)
    (λ word said d refused. number_line_why (codes "start") 0 (2 ^ 64 - 1) line word d said refused)
    h

limit_line_why : (name : List ℕ) (least most : ℕ) (line word : List ℕ) (n : ℕ) (kind : SetupKind) → value_in name (words line) ≡ Ok word → number_in word ≡ Ok n → within least most n ≡ Err kind → WhyNumber name least most kind line
limit_line_why name least most line word n kind said is h =
    let x = within_why least most n kind h in
    let spelled : words line ≡ name ∷ decimal n ∷ [] = value_is name (words line) word said ∙ ap (λ (w : List ℕ). name ∷ w ∷ []) (number_found word n is).0 in
    let why : WhyNumber name least most LimitPassed line = (n, (number_found word n is).1, spelled, x.1) in
    subst (λ (k : SetupKind). WhyNumber name least most k line) x.0 why

pub limited_why : (name : List ℕ) (least most : ℕ) (line : List ℕ) (kind : SetupKind) → limited_in name least most line ≡ Err kind → WhyNumber name least most kind line
limited_why name least most line kind h =
    by_steps (λ (k : SetupKind). WhyNumber name least most k line) (value_in name (words line)) (λ word. number_in word >>= λ number. within least most number) kind
    (λ d refused. value_line_why name least most line d refused)
    (λ word said d refused.
    by_steps (λ (k : SetupKind). WhyNumber name least most k line) (number_in word) (λ number. within least most number) d
    (λ k last. number_line_why name least most line word k said last)
    (λ n is k last. limit_line_why name least most line word n k said is last)
    refused)
    h

-- ---- the line of a chain

abbrev pub no_words : List (List ℕ) → Type 0
no_words parts = (delay index key : List ℕ) → parts ≢ codes "chain" ∷ delay ∷ index ∷ key ∷ []

pub words_why : (parts : List (List ℕ)) (kind : SetupKind) → chain_words parts ≡ Err kind → (BadLine ≡ kind) × no_words parts
words_why [] kind h = (err_is BadLine kind (chain_words []) refl h, λ d i k e. cc)
words_why (first ∷ []) kind h = (err_is BadLine kind (chain_words (first ∷ [])) refl h, λ d i k e. cc)
words_why (first ∷ delay ∷ []) kind h = (err_is BadLine kind (chain_words (first ∷ delay ∷ [])) refl h, λ d i k e. cc)
words_why (first ∷ delay ∷ index ∷ []) kind h = (err_is BadLine kind (chain_words (first ∷ delay ∷ index ∷ [])) refl h, λ d i k e. cc)
words_why (first ∷ delay ∷ index ∷ key ∷ []) kind h =
    let made : List ℕ × List ℕ × List ℕ = (delay, index, key) in
    let t = test_err (bytes_eq first (codes "chain")) made BadLine kind h in
    (t.1, λ d i k e. let same : first ≡ codes "chain" = first_is first (delay ∷ index ∷ key ∷ []) (codes "chain") (d ∷ i ∷ k ∷ []) e in not_both (bytes_eq first (codes "chain")) ((bytes_eq-Decides first (codes "chain")).1 same) t.0)
words_why (first ∷ delay ∷ index ∷ key ∷ more ∷ others) kind h = (err_is BadLine kind (chain_words (first ∷ delay ∷ index ∷ key ∷ more ∷ others)) refl h, λ d i k e. cc)

pub words_are : (line : List ℕ) (parts : List (List ℕ)) (x : List ℕ × List ℕ × List ℕ) → words line ≡ parts → chain_words parts ≡ Ok x → HasWords line x.0 x.1 x.2
words_are line [] x is h = absurd cc
words_are line (first ∷ []) x is h = absurd cc
words_are line (first ∷ delay ∷ []) x is h = absurd cc
words_are line (first ∷ delay ∷ index ∷ []) x is h = absurd cc
words_are line (first ∷ delay ∷ index ∷ key ∷ []) x is h =
    let made : List ℕ × List ℕ × List ℕ = (delay, index, key) in
    let t = test_ok (bytes_eq first (codes "chain")) made x h in
    let same : first ≡ codes "chain" = (bytes_eq-Decides first (codes "chain")).0 t.0 in
    subst (λ (y : List ℕ × List ℕ × List ℕ). HasWords line y.0 y.1 y.2) t.1 (is ∙ ap (λ (w : List ℕ). w ∷ delay ∷ index ∷ key ∷ []) same)
words_are line (first ∷ delay ∷ index ∷ key ∷ more ∷ others) x is h = absurd cc

row_kind : (a b c : Bool) (row : ChainRow) (kind : SetupKind) → cond a (Err LimitPassed) (cond b (Err DelaysNotRising) (cond c (Err IndexPastLast) (Ok row))) ≡ Err kind → a ≡ false → ((b ≡ true) × (DelaysNotRising ≡ kind)) ⊎ ((b ≡ false) × (c ≡ true) × (IndexPastLast ≡ kind))
row_kind true b c row kind h e = absurd cc
row_kind false true c row kind h e = inl (refl, err_is {A = ChainRow} DelaysNotRising kind (Err DelaysNotRising) refl h)
row_kind false false true row kind h e = inr (refl, refl, err_is {A = ChainRow} IndexPastLast kind (Err IndexPastLast) refl h)
row_kind false false false row kind h e = absurd cc

row_why : (line : List ℕ) (last before delay index : ℕ) (key : List ℕ) (kind : SetupKind) → SpellsChain line delay index key → row_judged last before (record { delay = delay; index = index; key = record { 0 = key } }) ≡ Err kind → WhyChain last before kind line
row_why line last before delay index key kind is h =
    let low = is.1 in
    let high = is.2 in
    let within_limits : (nat_lt delay 1 || nat_lt 4096 delay) ≡ false = grind (arith, nat_tests) in
    elim (row_kind (nat_lt delay 1 || nat_lt 4096 delay) (nat_le delay before) (nat_lt last index) (record { delay = delay; index = index; key = record { 0 = key } }) kind h within_limits) [
      | inl rise ↦
          let above : delay ≤ before = grind (arith, nat_tests, rise.0) in
          let why : WhyChain last before DelaysNotRising line = (delay, index, key, is, above) in
          subst (λ (k : SetupKind). WhyChain last before k line) rise.1 why
      | inr past ↦
          let above : before < delay = grind (arith, nat_tests, past.0) in
          let over : last < index = grind (arith, nat_tests, past.1) in
          let why : WhyChain last before IndexPastLast line = (delay, index, key, is, above, over) in
          subst (λ (k : SetupKind). WhyChain last before k line) past.2 why
    ]

has_again : (line a b c d e f : List ℕ) → HasWords line a b c → a ≡ d → b ≡ e → c ≡ f → HasWords line d e f
has_again line a b c d e f h p q r = h ∙ rw (p, q, r) refl

after_numbers : (last before : ℕ) (line : List ℕ) (number index : ℕ) (word : List ℕ) (kind : SetupKind) → HasNumbers line number index word → (within 1 4096 number >>= λ delay. hex_in 32 word >>= λ key. row_judged last before (record { delay = delay; index = index; key = record { 0 = key } })) ≡ Err kind → WhyChain last before kind line
after_numbers last before line number index word kind has h =
    by_steps (λ (k : SetupKind). WhyChain last before k line) (within 1 4096 number) (λ delay. hex_in 32 word >>= λ key. row_judged last before (record { delay = delay; index = index; key = record { 0 = key } })) kind
    (λ d refused.
    let x = within_why 1 4096 number d refused in
    let why : WhyChain last before LimitPassed line = (number, index, word, has, x.1) in
    subst (λ (k : SetupKind). WhyChain last before k line) x.0 why)
    (λ delay ok d refused.
    let w = within_found 1 4096 number delay ok in
    let small = w.2 in
    let spelled : HasNumbers line delay index word = (has_again line (decimal number) (decimal index) word (decimal delay) (decimal index) word has.0 (ap decimal w.0) refl refl, omega arith, has.2) in
    by_steps (λ (k : SetupKind). WhyChain last before k line) (hex_in 32 word) (λ key. row_judged last before (record { delay = delay; index = index; key = record { 0 = key } })) d
    (λ k end.
    let x = hex_why 32 word k end in
    let why : WhyChain last before BadHex line = (delay, index, word, spelled, w.1, w.2, x.1) in
    subst (λ (j : SetupKind). WhyChain last before j line) x.0 why)
    (λ key found k end.
    let is = hex_found 32 word key found in
    let whole = has_again line (decimal delay) (decimal index) word (decimal delay) (decimal index) (encode_lower key) spelled.0 refl refl is.text in
    row_why line last before delay index key k ((whole, spelled.1, spelled.2), w.1, w.2, is.whole, is.fits) end)
    refused)
    h

after_words : (last before : ℕ) (line : List ℕ) (word : List ℕ × List ℕ × List ℕ) (kind : SetupKind) → HasWords line word.0 word.1 word.2 → (number_in word.0 >>= λ number. number_in word.1 >>= λ index. within 1 4096 number >>= λ delay. hex_in 32 word.2 >>= λ key. row_judged last before (record { delay = delay; index = index; key = record { 0 = key } })) ≡ Err kind → WhyChain last before kind line
after_words last before line word kind has h =
    by_steps (λ (k : SetupKind). WhyChain last before k line) (number_in word.0) (λ number. number_in word.1 >>= λ index. within 1 4096 number >>= λ delay. hex_in 32 word.2 >>= λ key. row_judged last before (record { delay = delay; index = index; key = record { 0 = key } })) kind
    (λ d refused.
    let x = number_why word.0 d refused in
    let why : WhyChain last before BadNumber line = (word.0, word.1, word.2, has, inl x.1) in
    subst (λ (k : SetupKind). WhyChain last before k line) x.0 why)
    (λ number is d refused.
    by_steps (λ (k : SetupKind). WhyChain last before k line) (number_in word.1) (λ index. within 1 4096 number >>= λ delay. hex_in 32 word.2 >>= λ key. row_judged last before (record { delay = delay; index = index; key = record { 0 = key } })) d
    (λ k end.
    let x = number_why word.1 k end in
    let why : WhyChain last before BadNumber line = (word.0, word.1, word.2, has, inr x.1) in
    subst (λ (j : SetupKind). WhyChain last before j line) x.0 why)
    (λ index found k end.
    let delay = number_found word.0 number is in
    let offset = number_found word.1 index found in
    let spelled : HasNumbers line number index word.2 = (has_again line word.0 word.1 word.2 (decimal number) (decimal index) word.2 has delay.0 offset.0 refl, delay.1, offset.1) in
    after_numbers last before line number index word.2 k spelled end)
    refused)
    h

pub chain_why : (last before : ℕ) (line : List ℕ) (kind : SetupKind) → chain_in last before line ≡ Err kind → WhyChain last before kind line
unfolding chain_in
chain_why last before line kind h =
    by_steps (λ (k : SetupKind). WhyChain last before k line) (chain_words (words line)) (λ word. number_in word.0 >>= λ number. number_in word.1 >>= λ index. within 1 4096 number >>= λ delay. hex_in 32 word.2 >>= λ key. row_judged last before (record { delay = delay; index = index; key = record { 0 = key } })) kind
    (λ d refused.
    let v = words_why (words line) d refused in
    let why : WhyChain last before BadLine line = v.1 in
    subst (λ (k : SetupKind). WhyChain last before k line) v.0 why)
    (λ word said d refused. after_words last before line word d (words_are line (words line) word refl said) refused)
    h
