-- The outline of a file, one record after the other.
use Rattle.std.proofs.Common.{◌≡◌, ◌∙◌, ℕ, zero, suc, ◌<◌, List, length, Option, None, refl, sym, ap, arith}
use Rattle.tesla_records.specs.Grammar.{Grammar, IsGrammar}
use Rattle.tesla_records.specs.Records.{Next, AtEnd, Recorded, Refuses, Outline, next_at, head_at, with_head, with_record, outline_by, outline_within, outline_at}
use Rattle.tesla_records.proofs.NextRecord.{after_shorter}

-- behind the head there is none
pub head_behind : (G : Grammar) (offset : ℕ) (rest : List ℕ) → 0 < offset → head_at G offset rest ≡ None
unfolding head_at
head_behind G zero rest some = absurd (omega arith)
head_behind G (suc offset) rest some = refl

-- so the outline there has no head of its own
pub at_behind : (G : Grammar) (offset : ℕ) (rest : List ℕ) → 0 < offset → outline_at G offset rest ≡ outline_within G (suc (length rest)) offset rest
unfolding outline_at
at_behind G offset rest some = ap (λ (h : Option G.Head). with_head h (outline_within G (suc (length rest)) offset rest)) (head_behind G offset rest some)

module _ (G : Grammar) (is : IsGrammar G) where
  -- as many as there are bytes, and one, is enough
  within_same : (n m offset : ℕ) (rest : List ℕ) → length rest < n → length rest < m → outline_within G n offset rest ≡ outline_within G m offset rest
  unfolding outline_within
  within_same zero m offset rest ln lm = absurd (omega arith)
  within_same (suc n) zero offset rest ln lm = absurd (omega arith)
  within_same (suc n) (suc m) offset rest ln lm =
      let step : (next : Next G.Record G.Kind) → next_at G offset rest ≡ next → outline_by (outline_within G n) next ≡ outline_by (outline_within G m) next = λ next e.
      (elim next as (λ k. next_at G offset rest ≡ k → outline_by (outline_within G n) k ≡ outline_by (outline_within G m) k) [
        | AtEnd ↦ λ h. refl
        | Recorded first now after ↦ λ h. (let short = (after_shorter G is offset rest first now after h).short in ap (with_record first) (within_same n m now after (omega (arith, short)) (omega (arith, short))))
        | Refuses at refusal ↦ λ h. refl
      ]) e in
      step (next_at G offset rest) refl

  pub one_step : (offset : ℕ) (rest : List ℕ) (next : Next G.Record G.Kind) → next_at G offset rest ≡ next → outline_at G offset rest ≡ with_head (head_at G offset rest) (outline_by (outline_at G) next)
  unfolding outline_at outline_within
  one_step offset rest AtEnd e = ap (λ (n : Next G.Record G.Kind). with_head (head_at G offset rest) (outline_by (outline_within G (length rest)) n)) e
  one_step offset rest (Recorded first now after) e =
      let s = after_shorter G is offset rest first now after e in
      let short = s.short in
      let moved = s.moved in
      ap (λ (n : Next G.Record G.Kind). with_head (head_at G offset rest) (outline_by (outline_within G (length rest)) n)) e
      ∙ ap (λ (o : Outline G.Head G.Record G.Kind). with_head (head_at G offset rest) (with_record first o)) (within_same (length rest) (suc (length after)) now after short (omega arith) ∙ sym (at_behind G now after (omega (arith, moved))))
  one_step offset rest (Refuses at refusal) e = ap (λ (n : Next G.Record G.Kind). with_head (head_at G offset rest) (outline_by (outline_within G (length rest)) n)) e
