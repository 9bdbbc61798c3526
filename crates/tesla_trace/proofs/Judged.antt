-- What the code finds of the bytes that were read is what they tell.
use Rattle.std.proofs.Common.{◌≡◌, ℕ, ◌-◌, ◌≤◌, Bool, true, false, eqb, List, [], ◌∷◌, length, take, refl, sym, ap, ◌∙◌, arith}
use Rattle.std.specs.Prelude.{if◌then◌else◌, bytes_eq}
use Rattle.std.proofs.lemmas.Bool.{eqb-true, eq-eqb}
use Rattle.std.proofs.lemmas.Slice.Eq.{bytes_eq-Decides}
use Rattle.tesla_records.specs.Grammar.{Whole, ParsedHead, AwaitsHead, NoHead}
use Rattle.tesla_receiver.specs.Entries.{Entry}
use Rattle.tesla_trace.specs.Parsing.{Read, entry_part, parse_of, parse_entry, head_behind}
use Rattle.tesla_trace.proofs.TraceIs.{entry_some}

-- ---- entries

pub rest_fewer : (bytes rest : List ℕ) (it : Entry) → Read (it, rest) ≡ entry_part bytes → length rest ≤ length bytes
rest_fewer bytes rest it e = let h = entry_some bytes (it, rest) (sym e) in omega (arith, h)

pub entry_parsed : (bytes rest : List ℕ) (it : Entry) → Read (it, rest) ≡ entry_part bytes → parse_entry bytes ≡ Whole it (length bytes - length rest)
unfolding parse_entry
entry_parsed bytes rest it e = ap (parse_of (length bytes)) (sym e)

-- ---- heads

same_first : (a b : ℕ) (xs ys : List ℕ) → a ∷ xs ≡ b ∷ ys → a ≡ b
same_first a b xs ys e = cc

same_rest : (a b : ℕ) (xs ys : List ℕ) → a ∷ xs ≡ b ∷ ys → xs ≡ ys
same_rest a b xs ys e = cc

module _ (behind : List ℕ → ParsedHead ℕ) where
  -- a part of the magic
  pub part_awaits : (magic bytes : List ℕ) → behind [] ≡ AwaitsHead → length bytes ≤ length magic → bytes ≡ take (length bytes) magic → head_behind magic behind bytes ≡ AwaitsHead
  part_awaits [] [] none few same = none
  part_awaits [] (b ∷ bytes) none few same = absurd (omega (arith, few))
  part_awaits (wanted ∷ magic) [] none few same = refl
  part_awaits (wanted ∷ magic) (b ∷ bytes) none few same =
      ap (λ (c : Bool). if c then head_behind magic behind bytes else NoHead) (eq-eqb b wanted (same_first b wanted bytes (take (length bytes) magic) same))
      ∙ part_awaits magic bytes none (omega (arith, few)) (same_rest b wanted bytes (take (length bytes) magic) same)

  none_by : (t : Bool) (o : ParsedHead ℕ) → (t ≡ true → o ≡ NoHead) → (if t then o else NoHead) ≡ NoHead
  none_by true o h = h refl
  none_by false o h = refl

  joined : (a b : ℕ) (xs ys : List ℕ) → a ≡ b → xs ≡ ys → a ∷ xs ≡ b ∷ ys
  joined a b xs ys e h = cc

  -- other bytes, no more than the magic
  pub part_none : (magic bytes : List ℕ) → length bytes ≤ length magic → (bytes ≡ take (length bytes) magic → ⊥) → head_behind magic behind bytes ≡ NoHead
  part_none magic [] few other = absurd (other refl)
  part_none [] (b ∷ bytes) few other = absurd (omega (arith, few))
  part_none (wanted ∷ magic) (b ∷ bytes) few other =
      none_by (eqb b wanted) (head_behind magic behind bytes) (λ t. part_none magic bytes (omega (arith, few)) (λ e. other (joined b wanted bytes (take (length bytes) magic) (eqb-true b wanted t) e)))

not_true : true ≡ false → ⊥
not_true e = absurd cc

pub is_part_awaits : (magic bytes : List ℕ) (result : Bool) (behind : List ℕ → ParsedHead ℕ) → result ≡ bytes_eq bytes (take (length bytes) magic) → length bytes ≤ length magic → result ≡ true → behind [] ≡ AwaitsHead → head_behind magic behind bytes ≡ AwaitsHead
is_part_awaits magic bytes result behind is few same none = part_awaits behind magic bytes none few ((bytes_eq-Decides bytes (take (length bytes) magic)).0 (sym is ∙ same))

pub is_part_none : (magic bytes : List ℕ) (result : Bool) (behind : List ℕ → ParsedHead ℕ) → result ≡ bytes_eq bytes (take (length bytes) magic) → length bytes ≤ length magic → result ≡ false → head_behind magic behind bytes ≡ NoHead
is_part_none magic bytes result behind is few other = part_none behind magic bytes few (λ e. not_true (sym ((bytes_eq-Decides bytes (take (length bytes) magic)).1 e) ∙ sym is ∙ other))
