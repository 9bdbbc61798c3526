-- The records of a capture or a script before its first refused place. Also that place.
use Rattle.std.specs.Prelude.{ℕ, zero, suc, List, [], ◌∷◌, ◌++◌, Option, Some, None}
use Rattle.tesla_records.specs.Records as files
pub use Rattle.tesla_records.specs.Records.{AtEnd, Recorded, Refuses}
use Rattle.tesla_records.specs.declared.refusal.Refusal.{Refusal}
use Rattle.tesla_records.specs.declared.refusal.Refusal.TheVariants as refusals
use Rattle.tesla_capture.specs.Grammar.{Grammar}
use Rattle.tesla_capture.specs.Parsing.{file_of}
use Rattle.tesla_capture.specs.declared.record.RecordFault.{RecordFault}
use Rattle.tesla_capture.specs.declared.record.RecordFault.TheVariants as faults
use Rattle.tesla_capture.specs.declared.record.RecordKind.{RecordKind}
use Rattle.tesla_capture.specs.declared.record.RecordKind.TheVariants.{BadHead, BadKind, Truncated, TooLong, TooLarge}

-- the kind of a refusal
abbrev pub kind_of : Refusal RecordFault → RecordKind
kind_of refusals.BadHead = BadHead
kind_of refusals.Truncated = Truncated
kind_of refusals.TooLarge = TooLarge
kind_of (refusals.BadRecord faults.BadKind) = BadKind
kind_of (refusals.BadRecord faults.TooLong) = TooLong

-- the refusal of a kind
abbrev pub refusal_of : RecordKind → Refusal RecordFault
refusal_of BadHead = refusals.BadHead
refusal_of BadKind = refusals.BadRecord faults.BadKind
refusal_of Truncated = refusals.Truncated
refusal_of TooLong = refusals.BadRecord faults.TooLong
refusal_of TooLarge = refusals.TooLarge

-- what comes next in the rest of a file from a place on; at place 0 the head comes first
abbrev pub next_at : (G : Grammar) → ℕ → List ℕ → files.Next G.Record RecordFault
next_at G offset rest = files.next_at (file_of G) offset rest

-- the place of the record that is read from a place on: that of the first is behind the head
abbrev pub record_offset : ℕ → ℕ
record_offset zero = 5
record_offset (suc offset) = suc offset

-- the whole records of a file before the first place that is refused, and that place with the kind; there is none where the file is in its grammar
pub record Outline (R : Type 0) : Type 0 where
  pub records : List R
  pub fault : Option (ℕ × RecordKind)

-- an outline with one record before it
abbrev pub with_record : {R : Type 0} → R → Outline R → Outline R
with_record first outline = record { records = first ∷ outline.records; fault = outline.fault }

-- an outline with these records before it
abbrev pub with_records : {R : Type 0} → List R → Outline R → Outline R
with_records records outline = record { records = records ++ outline.records; fault = outline.fault }

-- the outline of what comes next, told that of what stands after a record
abbrev pub outline_by : {R : Type 0} → (ℕ → List ℕ → Outline R) → files.Next R RecordFault → Outline R
outline_by after AtEnd = record { records = []; fault = None }
outline_by after (Recorded first offset rest) = with_record first (after offset rest)
outline_by after (Refuses offset refusal) = record { records = []; fault = Some (offset, kind_of refusal) }

-- a refused place with its kind
abbrev pub fault_of : Option (ℕ × Refusal RecordFault) → Option (ℕ × RecordKind)
fault_of None = None
fault_of (Some fault) = Some (fault.0, kind_of fault.1)

-- the records of an outline of a file of records, and its refused place with its kind
abbrev pub outline_as : {R : Type 0} → files.Outline (Unit {0}) R RecordFault → Outline R
outline_as outline = record { records = outline.records; fault = fault_of outline.fault }

-- the outline of the rest of a file from a place on
unfoldable pub outline_at : (G : Grammar) → ℕ → List ℕ → Outline G.Record
outline_at G offset rest = outline_as (files.outline_at (file_of G) offset rest)

-- the outline of a file
abbrev pub outline_of : (G : Grammar) → List ℕ → Outline G.Record
outline_of G bytes = outline_at G 0 bytes
