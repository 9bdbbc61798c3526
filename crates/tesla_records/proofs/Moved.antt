-- How a step moves the place of a reader, and what is known of the head.
use Rattle.std.proofs.Common.{◌≡◌, ◌∙◌, ℕ, zero, suc, ◌+◌, ◌<◌, List, length, Option, Some, refl, sym, ap, subst, arith, inl, inr}
use Rattle.tesla_records.specs.Grammar.{Grammar, Whole, HeadIs}
use Rattle.tesla_records.specs.Records.{record_offset, parsed_head}
use Rattle.tesla_records.specs.Judged.{TakesWhole}
use Rattle.tesla_records.specs.declared.refusal.Refusal.{Refusal}
use Rattle.tesla_records.specs.declared.refusal.Refusal.TheVariants.{BadHead, Truncated, TooLarge, BadRecord}
use Rattle.tesla_records.specs.declared.step.RecordsStep.{RecordsStep}
use Rattle.tesla_records.specs.declared.step.RecordsStep.TheVariants.{Record, End, Refused, ReadFault}
use Rattle.tesla_records.specs.Found.{IsPending}
use Rattle.tesla_records.specs.declared.found.Found.{Found}
use Rattle.tesla_records.specs.declared.found.Found.TheVariants as finds
use Rattle.tesla_records.proofs.StepGives.{pending_whole}
use Rattle.tesla_records.specs.Steps.{IsOffsetOf, Moves, MovesHead, ReadsHead}

module _ (G : Grammar) where
  -- behind the head a record is read at its place
  pub record_offset_is : (offset : ℕ) → 0 < offset → record_offset G offset ≡ offset
  record_offset_is zero some = absurd (omega arith)
  record_offset_is (suc offset) some = refl

  -- a whole record moves the place behind it
  pub whole_moves : {K : Type 0} (found : Found K) (offset now size : ℕ) (given : G.Record) (bytes : List ℕ) → found ≡ finds.Record size → 0 < offset → IsPending G found bytes → ((it : G.Record) → G.parse bytes ≡ Whole it size → TakesWhole G bytes it size given) → now ≡ offset + size
      → (now ≡ record_offset G offset + length (G.record_text given)) × G.IsRecord given
  whole_moves found offset now size given bytes is some whole took moved =
      let whole = pending_whole G found size bytes is whole in
      let takes = took whole.0 whole.1 in
      let at = record_offset_is offset some in
      let sized : length (G.record_text given) ≡ size = ap (λ (x : G.Record). length (G.record_text x)) takes.is ∙ takes.sized in
      (omega (arith, at, sized, moved), subst G.IsRecord (sym takes.is) takes.limits)

  offset_head : {K : Type 0} (refusal : Refusal K) (at : ℕ) → 0 < G.head_size → IsOffsetOf G refusal G.head_size at → IsOffsetOf G refusal 0 at
  offset_head BadHead at some is = is
  offset_head Truncated at some is = is ∙ record_offset_is G.head_size some
  offset_head TooLarge at some is = is ∙ record_offset_is G.head_size some
  offset_head (BadRecord kind) at some is = is ∙ record_offset_is G.head_size some

  -- a step behind the head is one from place 0 on
  pub moves_head : {K T : Type 0} (show : T → G.Record) (step : RecordsStep K T) (now : ℕ) → 0 < G.head_size → Moves G show step G.head_size now → Moves G show step 0 now
  moves_head show (Record taken) now some (moved, limits) = (moved ∙ ap (λ (k : ℕ). k + length (G.record_text (show taken))) (record_offset_is G.head_size some), limits)
  moves_head show End now some moved = moved ∙ record_offset_is G.head_size some
  moves_head show (Refused at refusal) now some (moved, is) = (moved, offset_head refusal at some is)
  moves_head show ReadFault now some (inl moved) = inr moved
  moves_head show ReadFault now some (inr moved) = inr (moved ∙ record_offset_is G.head_size some)

  -- behind the head nothing is read of it
  pub heads_kept : (offset at : ℕ) (before now : Option G.Head) → 0 < offset → now ≡ before → MovesHead G offset before at now
  heads_kept offset at before now some same = record { none = λ start. same; kept = λ behind. same; read = λ start moved. absurd (omega arith) }

  -- where nothing was taken nothing is known
  pub heads_none : (offset at : ℕ) (before now : Option G.Head) → offset ≡ 0 → at ≡ 0 → now ≡ before → MovesHead G offset before at now
  heads_none offset at before now start stays same = record { none = λ none. same; kept = λ behind. same; read = λ first moved. absurd (omega arith) }

  -- the head was taken
  pub heads_read : (offset at : ℕ) (before now : Option G.Head) (head : G.Head) → offset ≡ 0 → 0 < at → now ≡ Some head → G.IsHead head → MovesHead G offset before at now
  heads_read offset at before now head start moved is limits = record { none = λ none. absurd (omega arith); kept = λ behind. absurd (omega arith); read = λ first some. (head, is, limits) }

  -- the head that was taken is that of the file
  pub reads_head : (offset at : ℕ) (rest : List ℕ) (now : Option G.Head) (head : G.Head) → G.parse_head rest ≡ HeadIs head → now ≡ Some head → ReadsHead G offset rest at now
  reads_head offset at rest now head told is = λ start some. is ∙ sym (ap parsed_head told)
