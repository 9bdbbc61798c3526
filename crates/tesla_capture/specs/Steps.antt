-- What a reader of captures or scripts has ahead, and what one step says.
use Rattle.std.specs.Prelude.{◌≡◌, ◌⊎◌, ℕ, ◌+◌, ◌≤◌, Bool, true, false, List, [], length, take, drop, Option, Some}
use Rattle.tesla_records.specs.Steps as files
pub use Rattle.tesla_records.specs.Steps.{pending, ahead}
use Rattle.tesla_records.specs.Records.{dropped_by}
use Rattle.tesla_records.specs.declared.step.RecordsStep.{RecordsStep}
use Rattle.tesla_records.specs.declared.step.RecordsStep.TheVariants as records
use Rattle.tesla_capture.specs.Grammar.{Grammar}
use Rattle.tesla_capture.specs.Parsing.{bare_size, file_of}
use Rattle.tesla_capture.specs.Records.{AtEnd, Refuses, next_at, record_offset, kind_of, refusal_of}
use Rattle.tesla_capture.specs.declared.record.RecordFault.{RecordFault}
use Rattle.tesla_capture.specs.declared.record.RecordKind.{RecordKind}
use Rattle.tesla_capture.specs.declared.record.RecordKind.TheVariants.{BadHead}
use Rattle.tesla_capture.specs.declared.record.RecordStep.{RecordStep}
use Rattle.tesla_capture.specs.declared.record.RecordStep.TheVariants.{Carrying, Bare, End, Refused, ReadFault}
use Rattle.tesla_capture.specs.declared.record.RecordHead.{RecordHead}
use Rattle.tesla_capture.specs.declared.record.RecordHead.TheVariants as record_heads

-- a reader: the bytes that it has read and not taken as records yet, how many it has taken, and whether it goes on
abbrev pub Progress : Type 0
Progress = files.Progress (Unit {0})

-- the next record was given; now is the place after it, and all that stands there is left
abbrev pub GivesRecord : (G : Grammar) → G.Record → ℕ → List ℕ → ℕ → Option (List ℕ) → Type 0
GivesRecord G given offset rest now left = files.GivesRecord (file_of G) given offset rest now left

-- no record was taken on the way to the place now: the rest stands there as it was, or the head before it was taken
abbrev pub TakesNoRecord : Grammar → ℕ → List ℕ → ℕ → List ℕ → Type 0
TakesNoRecord G offset rest now after = files.TakesNoRecord (file_of G) offset rest now after

-- no record was taken, and all that stands at the place now is left, but for its first bytes where so many were dropped
abbrev pub LeavesFrom : Grammar → ℕ → ℕ → List ℕ → ℕ → Option (List ℕ) → Type 0
LeavesFrom G dropped offset rest now left = files.LeavesFrom (file_of G) dropped offset rest now left

-- what a step says of the rest that wasn't taken yet at a place, and what it leaves of it, told the bytes of the room
abbrev pub Gives : Grammar → RecordStep → ℕ → List ℕ → ℕ → Option (List ℕ) → List ℕ → Type 0
Gives G (Carrying reading length) offset rest now left into = GivesRecord G (G.carrying reading (take length into)) offset rest now left
Gives G (Bare reading) offset rest now left into = GivesRecord G (G.bare reading) offset rest now left
Gives G End offset rest now left into = (next_at G offset rest ≡ AtEnd) × (left ≡ Some [])
Gives G (Refused at kind) offset rest now left into =
    (next_at G offset rest ≡ Refuses at (refusal_of kind)) × LeavesFrom G (dropped_by at (refusal_of kind)) offset rest at left
Gives G ReadFault offset rest now left into = LeavesFrom G 0 offset rest now left

-- the place of a refusal: the file's for its head, else that of the record
abbrev pub IsOffsetOf : RecordKind → ℕ → ℕ → Type 0
IsOffsetOf BadHead offset at = at ≡ 0
IsOffsetOf _ offset at = at ≡ record_offset offset

-- how a step moves the place
abbrev pub Moves : Grammar → RecordStep → ℕ → ℕ → Type 0
Moves G (Carrying reading length) offset now = (now ≡ record_offset offset + 11 + length) × (length ≤ G.longest)
Moves G (Bare reading) offset now = now ≡ record_offset offset + bare_size G.timed
Moves G End offset now = now ≡ record_offset offset
Moves G (Refused at kind) offset now = (now ≡ at) × IsOffsetOf kind offset at
Moves G ReadFault offset now = (now ≡ offset) ⊎ (now ≡ record_offset offset)

-- how many bytes a step gives
abbrev pub length_given : RecordStep → ℕ
length_given (Carrying reading length) = length
length_given _ = 0

-- a reader goes on after a record alone
abbrev pub goes_on : RecordStep → Bool
goes_on (Carrying reading length) = true
goes_on (Bare reading) = true
goes_on End = false
goes_on (Refused at kind) = false
goes_on ReadFault = false

-- ---- as a step of a reader of files of records

-- the record that is told, whose bytes the room holds
abbrev pub record_read : (G : Grammar) → RecordHead → List ℕ → G.Record
record_read G (record_heads.Carrying reading length) into = G.carrying reading (take length into)
record_read G (record_heads.Bare reading) into = G.bare reading

-- how many bytes are told
abbrev pub length_read : RecordHead → ℕ
length_read (record_heads.Carrying reading length) = length
length_read (record_heads.Bare reading) = 0

-- a room holds the bytes that are told, and what is behind them stayed as it was
pub record HoldsRead (G : Grammar) (record_head : RecordHead) (before after : List ℕ) : Type 0 where
  pub few : length_read record_head ≤ G.longest
  pub there : length_read record_head ≤ length after
  pub behind : drop (length_read record_head) after ≡ drop (length_read record_head) before

-- the step that is answered
abbrev pub step_as : RecordsStep RecordFault RecordHead → RecordStep
step_as (records.Record (record_heads.Carrying reading length)) = Carrying reading length
step_as (records.Record (record_heads.Bare reading)) = Bare reading
step_as records.End = End
step_as (records.Refused at refusal) = Refused at (kind_of refusal)
step_as records.ReadFault = ReadFault
