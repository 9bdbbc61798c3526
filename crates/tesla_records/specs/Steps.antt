-- What a reader has ahead, and what one step says of its file.
use Rattle.std.specs.Prelude.{◌≡◌, ◌⊎◌, ℕ, zero, suc, ◌+◌, ◌<◌, Bool, true, false, List, [], ◌++◌, length, drop, Option, Some}
use Rattle.tesla_desk.specs.Outside.{after_bytes}
use Rattle.tesla_records.specs.Grammar.{Grammar}
use Rattle.tesla_records.specs.Records.{AtEnd, Recorded, Refuses, next_at, record_offset, refusal_by, dropped_by, parsed_head}
use Rattle.tesla_records.specs.declared.refusal.Refusal.{Refusal}
use Rattle.tesla_records.specs.declared.refusal.Refusal.TheVariants.{BadHead, Truncated, TooLarge, BadRecord}
use Rattle.tesla_records.specs.declared.step.RecordsStep.{RecordsStep}
use Rattle.tesla_records.specs.declared.step.RecordsStep.TheVariants.{Record, End, Refused, ReadFault}

-- a reader: the bytes that it has read and not taken as records yet, how many it has taken, whether it goes on, and what the head told, once that was taken
pub record Progress (H : Type 0) : Type 0 where
  pub pending : List ℕ
  pub place : ℕ
  pub going : Bool
  pub head : Option H

-- the bytes that were read and not taken as records yet
abbrev pub pending : {H : Type 0} → Progress H → List ℕ
pending reader = reader.pending

-- what isn't taken yet: what a reader has pending, and then what its source has left
abbrev pub ahead : {H : Type 0} → Progress H → Option (List ℕ) → Option (List ℕ)
ahead reader left = after_bytes (pending reader) left

-- the record stands in the rest of a file from a place on, before what is after it; at place 0 the head comes first
abbrev pub StandsBefore : (G : Grammar) → G.Record → ℕ → List ℕ → List ℕ → Type 0
StandsBefore G given zero rest after = (head : G.Head) × G.IsHead head × (rest ≡ G.head_text head ++ (G.record_text given ++ after))
StandsBefore G given (suc offset) rest after = rest ≡ G.record_text given ++ after

-- the next record was given, within its limits and in its one spelling; now is the place after it, and all that stands there is left
abbrev pub GivesRecord : (G : Grammar) → G.Record → ℕ → List ℕ → ℕ → Option (List ℕ) → Type 0
GivesRecord G given offset rest now left =
    (after : List ℕ) × (left ≡ Some after) × (next_at G offset rest ≡ Recorded given now after) × G.IsRecord given × StandsBefore G given offset rest after

-- no record was taken on the way to the place now: the rest stands there as it was, or the head before it was taken
abbrev pub TakesNoRecord : Grammar → ℕ → List ℕ → ℕ → List ℕ → Type 0
TakesNoRecord G offset rest now after =
    ((now ≡ offset) × (after ≡ rest)) ⊎ ((offset ≡ 0) × (now ≡ G.head_size) × (head : G.Head) × G.IsHead head × (rest ≡ G.head_text head ++ after))

-- no record was taken, and all that stands at the place now is left, but for its first bytes where so many were dropped
abbrev pub LeavesFrom : Grammar → ℕ → ℕ → List ℕ → ℕ → Option (List ℕ) → Type 0
LeavesFrom G dropped offset rest now left = (after : List ℕ) × (left ≡ Some (drop dropped after)) × TakesNoRecord G offset rest now after

-- what a step says of the rest that wasn't taken yet at a place, and what it leaves of it, told which record is the one that was given
abbrev pub Gives : (G : Grammar) {K T : Type 0} → (K → G.Kind) → (T → G.Record) → RecordsStep K T → ℕ → List ℕ → ℕ → Option (List ℕ) → Type 0
Gives G kind_of show (Record taken) offset rest now left = GivesRecord G (show taken) offset rest now left
Gives G kind_of show End offset rest now left = (next_at G offset rest ≡ AtEnd) × (left ≡ Some [])
Gives G kind_of show (Refused at refusal) offset rest now left =
    (next_at G offset rest ≡ Refuses at (refusal_by kind_of refusal)) × LeavesFrom G (dropped_by at refusal) offset rest at left
Gives G kind_of show ReadFault offset rest now left = LeavesFrom G 0 offset rest now left

-- the place of a refusal: the file's for its head, else that of the record
abbrev pub IsOffsetOf : Grammar → {K : Type 0} → Refusal K → ℕ → ℕ → Type 0
IsOffsetOf G BadHead offset at = at ≡ 0
IsOffsetOf G Truncated offset at = at ≡ record_offset G offset
IsOffsetOf G TooLarge offset at = at ≡ record_offset G offset
IsOffsetOf G (BadRecord kind) offset at = at ≡ record_offset G offset

-- how a step moves the place; a record that was given is within its limits
abbrev pub Moves : (G : Grammar) {K T : Type 0} → (T → G.Record) → RecordsStep K T → ℕ → ℕ → Type 0
Moves G show (Record taken) offset now = (now ≡ record_offset G offset + length (G.record_text (show taken))) × G.IsRecord (show taken)
Moves G show End offset now = now ≡ record_offset G offset
Moves G show (Refused at refusal) offset now = (now ≡ at) × IsOffsetOf G refusal offset at
Moves G show ReadFault offset now = (now ≡ offset) ⊎ (now ≡ record_offset G offset)

-- how a step from a place to the place at moves what is known of the head: it was read on the way from place 0, and is within its limits
pub record MovesHead (G : Grammar) (offset : ℕ) (before : Option G.Head) (at : ℕ) (now : Option G.Head) : Type 0 where
  -- nothing was taken yet, or the head was taken before
  pub none : at ≡ 0 → now ≡ before
  pub kept : 0 < offset → now ≡ before
  pub read : offset ≡ 0 → 0 < at → (head : G.Head) × (now ≡ Some head) × G.IsHead head

-- a head that was read on the way from place 0 is that of the rest
abbrev pub ReadsHead : (G : Grammar) → ℕ → List ℕ → ℕ → Option G.Head → Type 0
ReadsHead G offset rest at now = offset ≡ 0 → 0 < at → now ≡ parsed_head (G.parse_head rest)

-- a reader goes on after a record alone
abbrev pub goes_on : {K T : Type 0} → RecordsStep K T → Bool
goes_on (Record taken) = true
goes_on End = false
goes_on (Refused at refusal) = false
goes_on ReadFault = false

-- what a step does to the caller's room: without a record the room stays as it was
abbrev pub Puts : {K T R : Type 0} → (T → R → R → Type 0) → RecordsStep K T → R → R → Type 0
Puts fits (Record taken) before after = fits taken before after
Puts fits End before after = after ≡ before
Puts fits (Refused at refusal) before after = after ≡ before
Puts fits ReadFault before after = after ≡ before
