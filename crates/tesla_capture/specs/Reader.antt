-- The readers' steps, as steps of a reader of records.
use Rattle.std.specs.Prelude.{ℕ, List, Option}
use Rattle.tesla_capture.specs.Capture.{Record, capture}
use Rattle.tesla_capture.specs.Steps as steps
use Rattle.tesla_capture.specs.declared.record.RecordStep.{RecordStep}
use Rattle.tesla_capture.specs.declared.record.RecordStep.TheVariants as records
use Rattle.tesla_capture.specs.declared.record.Step.{Step}
use Rattle.tesla_capture.specs.declared.record.Step.TheVariants.{Arrival, Take, End, Refused, ReadFault}
use Rattle.tesla_capture.specs.declared.record.ScriptStep.{ScriptStep}
use Rattle.tesla_capture.specs.declared.record.ScriptStep.TheVariants as scripts
pub use Rattle.tesla_capture.specs.Steps.{pending, ahead}

-- the next record of a capture was given; now is the place after it, and all that stands there is left
abbrev pub GivesRecord : Record → ℕ → List ℕ → ℕ → Option (List ℕ) → Type 0
GivesRecord given offset rest now left = steps.GivesRecord capture given offset rest now left

-- a step of a capture's reader: arrivals are of kind 1, takes of kind 2
abbrev pub step_of : Step → RecordStep
step_of (Arrival reading length) = records.Carrying reading length
step_of Take = records.Bare 0
step_of End = records.End
step_of (Refused at kind) = records.Refused at kind
step_of ReadFault = records.ReadFault

-- a step of a script's reader: messages are of kind 1, disclosures of kind 2
abbrev pub script_step_of : ScriptStep → RecordStep
script_step_of (scripts.Message reading length) = records.Carrying reading length
script_step_of (scripts.Disclose reading) = records.Bare reading
script_step_of scripts.End = records.End
script_step_of (scripts.Refused at kind) = records.Refused at kind
script_step_of scripts.ReadFault = records.ReadFault
