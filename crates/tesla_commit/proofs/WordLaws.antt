-- What stands between the bytes of a text: its lines, and the words of a line.
use Rattle.std.proofs.Common.{◌≡◌, ℕ, ◌+◌, ◌-◌, ◌<◌, ◌≤◌, Bool, true, false, cond, eqb, ltb, List, [], ◌∷◌, length, take, drop, Some, None, Ok, Err, refl, ap, ◌∙◌, arith}
use Rattle.std.specs.Prelude.{position}
use Rattle.std.specs.List.{slice_split, position_or_len}
use Rattle.std.proofs.lemmas.List.{take_all, length-drop}
use Rattle.std.proofs.lemmas.List.Sums.{fails_before_first}
use Rattle.std.proofs.lemmas.Bool.{ltb-false}
use borrow.Author.Tests.{ltb-true}
use Rattle.std.proofs.lemmas.List.Splits.{length-slice_split, slice_split_first, slice_split_none, join_with_byte-slice_split}
use Rattle.tesla_commit.specs.Parsing.{between, lines, next_line, value_in, chain_words}
use Rattle.tesla_commit.specs.declared.refusal.SetupKind.{SetupKind}
use Rattle.tesla_commit.specs.declared.refusal.SetupKind.TheVariants.{BadLine}

cons_of : {A : Type 0} (xs : List A) → 1 ≤ length xs → (first : A) × (others : List A) × (xs ≡ first ∷ others)
cons_of [] h = absurd (omega arith)
cons_of (x ∷ xs) h = (x, xs, refl)

-- there is always a first part
pub has_first : (byte : ℕ) (text : List ℕ) → (first : List ℕ) × (others : List (List ℕ)) × (between byte text ≡ first ∷ others)
unfolding between
has_first byte text =
    let count = length-slice_split (λ b. eqb b byte) text in
    cons_of (slice_split (λ b. eqb b byte) text) (omega arith)

pub next_line_is : (number : ℕ) (text line rest : List ℕ) → between 10 text ≡ line ∷ between 10 rest → next_line number (between 10 text) ≡ Ok (line, between 10 rest)
next_line_is number text line rest h =
    let n = has_first 10 rest in
    rw (h, n.2) refl

pub value_more : (name line first value second more : List ℕ) → between 32 line ≡ first ∷ between 32 value → between 32 value ≡ second ∷ between 32 more → value_in name (between 32 line) ≡ Err BadLine
value_more name line first value second more h k =
    let n = has_first 32 more in
    rw (h, k, n.2) refl

pub chain_more : (line first a delay b index c key more : List ℕ) → between 32 line ≡ first ∷ between 32 a → between 32 a ≡ delay ∷ between 32 b → between 32 b ≡ index ∷ between 32 c → between 32 c ≡ key ∷ between 32 more → chain_words (between 32 line) ≡ Err BadLine
chain_more line first a delay b index c key more h0 h1 h2 h3 =
    let n = has_first 32 more in
    rw (h0, h1, h2, h3, n.2) refl

at_most : (b : Bool) (offset : ℕ) → cond b (Some offset) None ≡ None → b ≡ false
at_most true offset h = absurd cc
at_most false offset h = refl

at_offset : (b : Bool) (offset other : ℕ) → cond b (Some offset) None ≡ Some other → (b ≡ true) × (offset ≡ other)
at_offset true offset other h = (refl, cc)
at_offset false offset other h = absurd cc

pub not_found : (byte : ℕ) (text : List ℕ) → position (λ b. eqb b byte) text ≡ None → between byte text ≡ text ∷ []
unfolding between
not_found byte text h =
    let p = position_or_len (λ b. eqb b byte) text in
    let past : length text ≤ p = ltb-false _ _ (at_most (ltb p (length text)) p h) in
    slice_split_none (λ b. eqb b byte) text (λ k d lt. fails_before_first (λ b. eqb b byte) text k d (omega (arith, past)))

pub found_at : (byte : ℕ) (text : List ℕ) (offset : ℕ) → position (λ b. eqb b byte) text ≡ Some offset → (offset < length text) × (between byte text ≡ take offset text ∷ between byte (take (length text - (offset + 1)) (drop (offset + 1) text)))
unfolding between
found_at byte text offset h =
    let p = position_or_len (λ b. eqb b byte) text in
    let a = at_offset (ltb p (length text)) p offset h in
    let lt : p < length text = ltb-true _ _ a.0 in
    let whole : take (length text - (offset + 1)) (drop (offset + 1) text) ≡ drop (offset + 1) text = take_all _ _ (omega (arith, length-drop (offset + 1) text)) in
    (rw (← a.1) lt, rw (whole, ← a.1) (slice_split_first (λ b. eqb b byte) text 0 lt))

-- a text of one part is that part
pub only_part : (byte : ℕ) (text other : List ℕ) → between byte text ≡ other ∷ [] → other ≡ text
unfolding between
only_part byte text other h =
    let joined = join_with_byte-slice_split byte text in
    rw h at joined

pub is_only : (text other : List ℕ) → lines text ≡ other ∷ [] → other ≡ text
is_only text other h = only_part 10 text other h

pub lines_of_nothing : (text : List ℕ) → length text ≡ 0 → lines text ≡ [] ∷ []
unfolding between
lines_of_nothing [] h = refl
lines_of_nothing (b ∷ text) h = absurd (omega arith)

refused_line : (number : ℕ) (parts : List (List ℕ)) (e : ℕ × SetupKind) → 1 ≤ length parts → next_line number parts ≡ Err e → (other : List ℕ) × (parts ≡ other ∷ [])
refused_line number [] e some h = absurd (omega arith)
refused_line number (unended ∷ []) e some h = (unended, refl)
refused_line number (line ∷ next ∷ others) e some h = absurd cc

-- a text of which no line can be taken has one part
pub only_line : (number : ℕ) (text : List ℕ) (e : ℕ × SetupKind) → next_line number (lines text) ≡ Err e → lines text ≡ text ∷ []
only_line number text e h =
    let f = has_first 10 text in
    let count : 1 ≤ length (lines text) = omega (arith, ap (length {A = List ℕ}) f.2) in
    let r = refused_line number (lines text) e count h in
    r.1 ∙ ap (λ (x : List ℕ). x ∷ []) (is_only text r.0 r.1)
