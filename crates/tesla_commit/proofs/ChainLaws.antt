-- Judging the lines of chains one after another.
use Rattle.std.proofs.Common.{◌≡◌, ◌≢◌, ℕ, ◌+◌, ◌<◌, ◌≤◌, Bool, true, false, cond, eqb, List, [], ◌∷◌, ◌++◌, length, Result, Ok, Err, refl, sym, ap, subst, ◌∙◌, arith}
use Rattle.std.proofs.lemmas.Bool.Decides.{nat_tests}
use Rattle.std.proofs.lemmas.List.{append-nil}
use Rattle.tesla_base.specs.declared.version.Version.{Version}
use Rattle.tesla_commit.specs.JudgedLines.{◌>>=◌, at, within}
use Rattle.tesla_commit.specs.ChainRows.{row_judged, first_line, end_line, rows_judged}
use Rattle.tesla_commit.specs.Parsing.{lines, words, next_line, chain_words, number_in, hex_in, chain_in, chains_judged}
use Rattle.tesla_commit.specs.declared.chain_row.ChainRow.{ChainRow}
use Rattle.tesla_commit.specs.declared.refusal.SetupKind.{SetupKind}
use Rattle.tesla_commit.specs.declared.refusal.SetupKind.TheVariants.{BadLine, NoChain, TooManyChains}
use Rattle.tesla_commit.proofs.RowLaws.{onto, onto_first, not_line, same_line, bind_ok, guard_ok, at_ok, ok_is, row_is}
use Rattle.tesla_commit.proofs.WordLaws.{has_first, lines_of_nothing, only_line, is_only}

abbrev pub taken : List ℕ × List (List ℕ) → Result (List ℕ × List (List ℕ)) (ℕ × SetupKind)
taken x = Ok x

abbrev refused : ℕ × SetupKind → Result (List ℕ × List (List ℕ)) (ℕ × SetupKind)
refused e = Err e

pub same_taken : (x y : List ℕ × List (List ℕ)) → taken x ≡ taken y → x ≡ y
same_taken x y h = cc

pair_is : (a b : List ℕ) (c d : List (List ℕ)) → taken (a, c) ≡ taken (b, d) → (a ≡ b) × (c ≡ d)
pair_is a b c d h =
    let e = same_taken (a, c) (b, d) h in
    (ap (λ (p : List ℕ × List (List ℕ)). p.0) e, ap (λ (p : List ℕ × List (List ℕ)). p.1) e)

same_kind : (e d : ℕ × SetupKind) → refused e ≡ refused d → e ≡ d
same_kind e d h = cc

pub chains_step : (version : Version) (last number before : ℕ) (prefix : List ChainRow) (parts others : List (List ℕ)) (line : List ℕ) (row : ChainRow) → number ≢ end_line version → next_line number parts ≡ Ok (line, others) → chain_in last before line ≡ Ok row → onto prefix (chains_judged version last number before parts) ≡ onto (prefix ++ row ∷ []) (chains_judged version last (number + 1) row.delay others)
unfolding chains_judged
chains_step version last number before prefix [] others line row ne h k = absurd cc
chains_step version last number before prefix (unended ∷ []) others line row ne h k = absurd cc
chains_step version last number before prefix (first ∷ next ∷ more) others line row ne h k =
    let p = pair_is first line (next ∷ more) others h in
    let test = not_line number (end_line version) ne in
    let judged : chain_in last before first ≡ Ok row = ap (chain_in last before) p.0 ∙ k in
    rw (test, judged, ← p.1) (onto_first prefix row (chains_judged version last (number + 1) row.delay (next ∷ more)))

pub chains_refused : (version : Version) (last number before : ℕ) (prefix : List ChainRow) (parts others : List (List ℕ)) (line : List ℕ) (kind : SetupKind) → number ≢ end_line version → next_line number parts ≡ Ok (line, others) → chain_in last before line ≡ Err kind → onto prefix (chains_judged version last number before parts) ≡ Err (number, kind)
unfolding chains_judged
chains_refused version last number before prefix [] others line kind ne h k = absurd cc
chains_refused version last number before prefix (unended ∷ []) others line kind ne h k = absurd cc
chains_refused version last number before prefix (first ∷ next ∷ more) others line kind ne h k =
    let p = pair_is first line (next ∷ more) others h in
    let test = not_line number (end_line version) ne in
    let judged : chain_in last before first ≡ Err kind = ap (chain_in last before) p.0 ∙ k in
    rw (test, judged) refl

unended_is : (version : Version) (last number before : ℕ) (prefix : List ChainRow) (text : List ℕ) (parts : List (List ℕ)) (e : ℕ × SetupKind) → 0 < length text → number ≢ end_line version → (parts ≡ text ∷ []) → next_line number parts ≡ Err e → onto prefix (chains_judged version last number before parts) ≡ Err e
unfolding chains_judged
unended_is version last number before prefix text parts e some ne only h =
    let test = not_line number (end_line version) ne in
    let nonempty : eqb (length text) 0 ≡ false = grind (arith, nat_tests) in
    let kind : (number, BadLine) ≡ e = same_kind (number, BadLine) e (rw only at h) in
    rw (only, nonempty, test) (ap Err kind)

pub chains_unended : (version : Version) (last number before : ℕ) (prefix : List ChainRow) (text : List ℕ) (e : ℕ × SetupKind) → 0 < length text → number ≢ end_line version → next_line number (lines text) ≡ Err e → onto prefix (chains_judged version last number before (lines text)) ≡ Err e
chains_unended version last number before prefix text e some ne h =
    unended_is version last number before prefix text (lines text) e some ne (only_line number text e h) h

over_is : (version : Version) (last number before : ℕ) (prefix : List ChainRow) (text : List ℕ) (parts : List (List ℕ)) → 0 < length text → number ≡ end_line version → ((other : List ℕ) → parts ≡ other ∷ [] → other ≡ text) → 1 ≤ length parts → onto prefix (chains_judged version last number before parts) ≡ Err (number, TooManyChains)
unfolding chains_judged
over_is version last number before prefix text [] some e only h = absurd (omega arith)
over_is version last number before prefix text (unended ∷ []) some e only h =
    let same = only unended refl in
    let nonempty : eqb (length unended) 0 ≡ false = rw same (grind (arith, nat_tests)) in
    let test = same_line number (end_line version) e in
    rw (nonempty, test) refl
over_is version last number before prefix text (line ∷ next ∷ others) some e only h =
    let test = same_line number (end_line version) e in
    rw test refl

pub chains_over : (version : Version) (last number before : ℕ) (prefix : List ChainRow) (text : List ℕ) → 0 < length text → number ≡ end_line version → onto prefix (chains_judged version last number before (lines text)) ≡ Err (number, TooManyChains)
chains_over version last number before prefix text some e =
    let f = has_first 10 text in
    let count : 1 ≤ length (lines text) = omega (arith, ap (length {A = List ℕ}) f.2) in
    over_is version last number before prefix text (lines text) some e (λ other h. is_only text other h) count

pub chains_none : (version : Version) (last number before : ℕ) (prefix : List ChainRow) (text : List ℕ) → length text ≡ 0 → number ≡ first_line version → onto prefix (chains_judged version last number before (lines text)) ≡ Err (number, NoChain)
unfolding chains_judged
chains_none version last number before prefix text none e =
    let test = same_line number (first_line version) e in
    rw (lines_of_nothing text none, test) refl

pub chains_end : (version : Version) (last number before : ℕ) (prefix : List ChainRow) (text : List ℕ) → length text ≡ 0 → number ≢ first_line version → onto prefix (chains_judged version last number before (lines text)) ≡ Ok prefix
unfolding chains_judged
chains_end version last number before prefix text none ne =
    let test = not_line number (first_line version) ne in
    rw (lines_of_nothing text none, test) (ap Ok (append-nil prefix))

-- ---- refusals in the loop

same_error : {A : Type 0} (e d : ℕ × SetupKind) (r : Result A (ℕ × SetupKind)) → r ≡ Err e → r ≡ Err d → e ≡ d
same_error e d r h k = cc

at_err : {A : Type 0} (number line : ℕ) (kind : SetupKind) (r : Result A SetupKind) → at number r ≡ Err (line, kind) → (r ≡ Err kind) × (number ≡ line)
at_err number line kind (Ok x) h = absurd cc
at_err number line kind (Err other) h =
    let e = same_error (number, other) (line, kind) (at number (Err other)) refl h in
    (ap (λ (p : ℕ × SetupKind). Err p.1) e, ap (λ (p : ℕ × SetupKind). p.0) e)

pub row_refused : (version : Version) (last number before other : ℕ) (prefix : List ChainRow) (parts others : List (List ℕ)) (line : List ℕ) (kind : SetupKind) → number ≢ end_line version → next_line number parts ≡ Ok (line, others) → at number (chain_in last before line) ≡ Err (other, kind) → onto prefix (chains_judged version last number before parts) ≡ Err (other, kind)
row_refused version last number before other prefix parts others line kind ne h k =
    let a = at_err number other kind (chain_in last before line) k in
    chains_refused version last number before prefix parts others line kind ne h a.0 ∙ ap (λ (n : ℕ). Err (n, kind)) a.1

-- ---- what chains that are not refused are

row_stands : (last before : ℕ) (made row : ChainRow) → row_judged last before made ≡ Ok row → row_judged last before row ≡ Ok row
row_stands last before made row h = subst (λ (r : ChainRow). row_judged last before r ≡ Ok row) (row_is last before made row h).0 h

-- what a line says where it is the row of a chain
pub record IsChain (last before : ℕ) (text : List ℕ) (row : ChainRow) : Type 0 where
  pub word : List ℕ × List ℕ × List ℕ
  pub number : ℕ
  pub index : ℕ
  pub delay : ℕ
  pub key : List ℕ
  pub said : chain_words (words text) ≡ Ok word
  pub delays : number_in word.0 ≡ Ok number
  pub indexes : number_in word.1 ≡ Ok index
  pub limit : within 1 4096 number ≡ Ok delay
  pub keys : hex_in 32 word.2 ≡ Ok key
  pub judged : row_judged last before (record { delay = delay; index = index; key = record { 0 = key } }) ≡ Ok row

pub chain_is : (last before : ℕ) (text : List ℕ) (row : ChainRow) → chain_in last before text ≡ Ok row → IsChain last before text row
unfolding chain_in
chain_is last before text row h =
    let w = bind_ok (chain_words (words text)) (λ word. number_in word.0 >>= λ number. number_in word.1 >>= λ index. within 1 4096 number >>= λ delay. hex_in 32 word.2 >>= λ key. row_judged last before (record { delay = delay; index = index; key = record { 0 = key } })) row h in
    let n = bind_ok (number_in w.0.0) (λ number. number_in w.0.1 >>= λ index. within 1 4096 number >>= λ delay. hex_in 32 w.0.2 >>= λ key. row_judged last before (record { delay = delay; index = index; key = record { 0 = key } })) row w.2 in
    let i = bind_ok (number_in w.0.1) (λ index. within 1 4096 n.0 >>= λ delay. hex_in 32 w.0.2 >>= λ key. row_judged last before (record { delay = delay; index = index; key = record { 0 = key } })) row n.2 in
    let d = bind_ok (within 1 4096 n.0) (λ delay. hex_in 32 w.0.2 >>= λ key. row_judged last before (record { delay = delay; index = i.0; key = record { 0 = key } })) row i.2 in
    let k = bind_ok (hex_in 32 w.0.2) (λ key. row_judged last before (record { delay = d.0; index = i.0; key = record { 0 = key } })) row d.2 in
    record { word = w.0; number = n.0; index = i.0; delay = d.0; key = k.0; said = w.1; delays = n.1; indexes = i.1; limit = d.1; keys = k.1; judged = k.2 }

pub chain_row : (last before : ℕ) (text : List ℕ) (row : ChainRow) → chain_in last before text ≡ Ok row → row_judged last before row ≡ Ok row
chain_row last before text row h =
    let is = chain_is last before text row h in
    row_stands last before (record { delay = is.delay; index = is.index; key = record { 0 = is.key } }) row is.judged

abbrev pub no_row : ℕ → Bool → Result (List ChainRow) (ℕ × SetupKind)
no_row number first = cond first (Err (number, NoChain)) (Ok [])

abbrev pub no_line : ℕ → Bool → Result (List ChainRow) (ℕ × SetupKind)
no_line number over = cond over (Err (number, TooManyChains)) (Err (number, BadLine))

pub last_ok : (none first over : Bool) (number : ℕ) (rows : List ChainRow) → cond none (no_row number first) (no_line number over) ≡ Ok rows → (none ≡ true) × (first ≡ false) × (rows ≡ [])
last_ok true true over number rows h = absurd cc
last_ok true false over number rows h = (refl, refl, sym (ok_is [] rows (Ok []) refl h))
last_ok false first true number rows h = absurd cc
last_ok false first false number rows h = absurd cc

rows_more : (version : Version) (last number before : ℕ) (row : ChainRow) (rows : List ChainRow) → eqb number (end_line version) ≡ false → row_judged last before row ≡ Ok row → rows_judged version last (number + 1) row.delay rows ≡ Ok rows → rows_judged version last number before (row ∷ rows) ≡ Ok (row ∷ rows)
unfolding rows_judged
rows_more version last number before row rows test one two = rw (test, one, two) refl

pub chains_are : (version : Version) (last number before : ℕ) (parts : List (List ℕ)) (rows : List ChainRow) → chains_judged version last number before parts ≡ Ok rows → rows_judged version last number before rows ≡ Ok rows
unfolding chains_judged rows_judged
chains_are version last number before [] rows h = absurd cc
chains_are version last number before (unended ∷ []) rows h =
    let l = last_ok (eqb (length unended) 0) (eqb number (first_line version)) (eqb number (end_line version)) number rows h in
    rw (l.2, l.1) refl
chains_are version last number before (line ∷ next ∷ others) rows h =
    let g = guard_ok (eqb number (end_line version)) (number, TooManyChains) (at number (chain_in last before line) >>= λ row. chains_judged version last (number + 1) row.delay (next ∷ others) >>= λ rows. Ok (row ∷ rows)) rows h in
    let a = bind_ok (at number (chain_in last before line)) (λ row. chains_judged version last (number + 1) row.delay (next ∷ others) >>= λ rows. Ok (row ∷ rows)) rows g.1 in
    let one = chain_row last before line a.0 (at_ok number (chain_in last before line) a.0 a.1) in
    let b = bind_ok (chains_judged version last (number + 1) a.0.delay (next ∷ others)) (λ rows. Ok (a.0 ∷ rows)) rows a.2 in
    let two = chains_are version last (number + 1) a.0.delay (next ∷ others) b.0 b.1 in
    let whole : (a.0 ∷ b.0) ≡ rows = ok_is (a.0 ∷ b.0) rows (Ok (a.0 ∷ b.0)) refl b.2 in
    subst (λ (rs : List ChainRow). rows_judged version last number before rs ≡ Ok rs) whole (rows_more version last number before a.0 b.0 g.0 one two)
