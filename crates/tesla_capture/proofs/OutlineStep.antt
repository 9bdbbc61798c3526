-- The outline of a file, one record after the other.
use Rattle.std.proofs.Common.{◌≡◌, ◌∙◌, ℕ, List, [], Some, refl, ap}
use Rattle.tesla_records.specs.Records.{Next}
use Rattle.tesla_records.proofs.OutlineStep as files
use Rattle.tesla_capture.specs.Formats.{IsGrammar}
use Rattle.tesla_capture.specs.Parsing.{file_of}
use Rattle.tesla_capture.specs.Grammar.{Grammar}
use Rattle.tesla_capture.specs.Records.{AtEnd, Outline, Recorded, Refuses, kind_of, next_at, outline_as, outline_at, outline_by, refusal_of}
use Rattle.tesla_capture.specs.declared.record.RecordFault.{RecordFault}
use Rattle.tesla_capture.specs.declared.record.RecordKind.{RecordKind}
use Rattle.tesla_capture.specs.declared.record.RecordKind.TheVariants.{BadHead, BadKind, Truncated, TooLong, TooLarge}
use Rattle.tesla_capture.specs.FileOf.{is_file}

-- a kind is that of its refusal
pub kind_again : (kind : RecordKind) → kind_of (refusal_of kind) ≡ kind
kind_again BadHead = refl
kind_again BadKind = refl
kind_again Truncated = refl
kind_again TooLong = refl
kind_again TooLarge = refl

module _ (G : Grammar) (is : IsGrammar G) where
  pub one_step : (offset : ℕ) (rest : List ℕ) (next : Next G.Record RecordFault) → next_at G offset rest ≡ next → outline_at G offset rest ≡ outline_by (outline_at G) next
  unfolding outline_at
  one_step offset rest AtEnd e = ap outline_as (files.one_step (file_of G) (is_file G is) offset rest AtEnd e)
  one_step offset rest (Recorded first now after) e = ap outline_as (files.one_step (file_of G) (is_file G is) offset rest (Recorded first now after) e)
  one_step offset rest (Refuses at refusal) e = ap outline_as (files.one_step (file_of G) (is_file G is) offset rest (Refuses at refusal) e)

  -- a refused place ends the records
  pub one_refused : (offset : ℕ) (rest : List ℕ) (at : ℕ) (kind : RecordKind) → next_at G offset rest ≡ Refuses at (refusal_of kind) → outline_at G offset rest ≡ record { records = []; fault = Some (at, kind) }
  one_refused offset rest at kind e =
      one_step offset rest (Refuses at (refusal_of kind)) e ∙ ap (λ (k : RecordKind). let o : Outline G.Record = record { records = []; fault = Some (at, k) } in o) (kind_again kind)
