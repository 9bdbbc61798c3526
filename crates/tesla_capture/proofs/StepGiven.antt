-- What a step of a reader of files of records gives is what the step that is answered gives.
use Rattle.std.proofs.Common.{◌≡◌, ◌∙◌, ℕ, zero, suc, List, length, take, Option, refl, arith, inl, inr}
use Rattle.std.proofs.lemmas.List.{length-take-le}
use Rattle.tesla_records.specs.Records as files
use Rattle.tesla_records.specs.Steps as steps
use Rattle.tesla_records.specs.declared.refusal.Refusal.TheVariants as refusals
use Rattle.tesla_records.specs.declared.step.RecordsStep.{RecordsStep}
use Rattle.tesla_records.specs.declared.step.RecordsStep.TheVariants.{Record, End, Refused, ReadFault}
use Rattle.tesla_capture.specs.Formats.{IsGrammar}
use Rattle.tesla_capture.specs.Parsing.{file_of}
use Rattle.tesla_capture.specs.Grammar.{Grammar}
use Rattle.tesla_capture.specs.Records.{record_offset}
use Rattle.tesla_capture.specs.Steps.{Gives, HoldsRead, Moves, record_read, step_as}
use Rattle.tesla_capture.specs.declared.record.RecordFault.{RecordFault}
use Rattle.tesla_capture.specs.declared.record.RecordFault.TheVariants as faults
use Rattle.tesla_capture.specs.declared.record.RecordHead.{RecordHead}
use Rattle.tesla_capture.specs.declared.record.RecordHead.TheVariants.{Carrying, Bare}
use Rattle.tesla_capture.specs.FileOf.{bare_length, carrying_length}

module _ (G : Grammar) where
  offset_as : (offset : ℕ) → files.record_offset (file_of G) offset ≡ record_offset offset
  offset_as zero = refl
  offset_as (suc offset) = refl

  pub gives_as : (step : RecordsStep RecordFault RecordHead) (offset : ℕ) (rest : List ℕ) (now : ℕ) (left : Option (List ℕ)) (into : List ℕ)
      → steps.Gives (file_of G) (λ fault. fault) (λ record_head. record_read G record_head into) step offset rest now left → Gives G (step_as step) offset rest now left into
  gives_as (Record (Carrying reading length)) offset rest now left into gives = gives
  gives_as (Record (Bare reading)) offset rest now left into gives = gives
  gives_as End offset rest now left into gives = gives
  gives_as (Refused at refusals.BadHead) offset rest now left into gives = gives
  gives_as (Refused at refusals.Truncated) offset rest now left into gives = gives
  gives_as (Refused at refusals.TooLarge) offset rest now left into gives = gives
  gives_as (Refused at (refusals.BadRecord faults.BadKind)) offset rest now left into gives = gives
  gives_as (Refused at (refusals.BadRecord faults.TooLong)) offset rest now left into gives = gives
  gives_as ReadFault offset rest now left into gives = gives

module _ (G : Grammar) (is : IsGrammar G) where
  pub moves_as : (step : RecordsStep RecordFault RecordHead) (offset now : ℕ) (before room : List ℕ) → steps.Puts (λ record_head a b. HoldsRead G record_head a b) step before room → steps.Moves (file_of G) (λ record_head. record_read G record_head room) step offset now → Moves G (step_as step) offset now
  moves_as (Record (Carrying reading n)) offset now before room holds moves =
      let there = holds.there in
      (omega (arith, moves.0, offset_as G offset, carrying_length G is reading (take n room), length-take-le n room there), holds.few)
  moves_as (Record (Bare reading)) offset now before room holds moves = omega (arith, moves.0, offset_as G offset, bare_length G is reading)
  moves_as End offset now before room same moves = moves ∙ offset_as G offset
  moves_as (Refused at refusals.BadHead) offset now before room same moves = moves
  moves_as (Refused at refusals.Truncated) offset now before room same moves = (moves.0, moves.1 ∙ offset_as G offset)
  moves_as (Refused at refusals.TooLarge) offset now before room same moves = (moves.0, moves.1 ∙ offset_as G offset)
  moves_as (Refused at (refusals.BadRecord faults.BadKind)) offset now before room same moves = (moves.0, moves.1 ∙ offset_as G offset)
  moves_as (Refused at (refusals.BadRecord faults.TooLong)) offset now before room same moves = (moves.0, moves.1 ∙ offset_as G offset)
  moves_as ReadFault offset now before room same (inl moves) = inl moves
  moves_as ReadFault offset now before room same (inr moves) = inr (moves ∙ offset_as G offset)
