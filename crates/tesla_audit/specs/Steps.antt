-- What a step through a trace or a tail says, and kinds of refused places.
use Rattle.std.specs.Prelude.{◌≡◌, false}
use Rattle.tesla_records.specs.declared.refusal.Refusal.{Refusal}
use Rattle.tesla_records.specs.declared.refusal.Refusal.TheVariants as refusals
use Rattle.tesla_records.specs.Steps.{goes_on}
use Rattle.tesla_records.specs.declared.step.RecordsStep.{RecordsStep}
use Rattle.tesla_records.specs.declared.step.RecordsStep.TheVariants as steps
use Rattle.tesla_receiver.specs.Entries.{Entry}
use Rattle.tesla_trace.specs.Entries.{entry_in}
use Rattle.tesla_trace.specs.declared.entry.EntryBuffer.{EntryBuffer}
use Rattle.tesla_trace.specs.declared.kind.EntryFault.{EntryFault}
use Rattle.tesla_trace.specs.declared.kind.EntryFault.TheVariants as faults
use Rattle.tesla_trace.specs.declared.kind.TraceKind.{TraceKind}
use Rattle.tesla_trace.specs.declared.kind.TraceKind.TheVariants as kinds
use Rattle.tesla_audit.specs.declared.step.TraceStep.{TraceStep}
use Rattle.tesla_audit.specs.declared.step.TraceStep.TheVariants.{Entry as Gave, End, Refused, ReadFault}

-- why a trace is refused, told why a file of entries is
abbrev pub kind_of : Refusal EntryFault → TraceKind
kind_of refusals.BadHead = kinds.BadHead
kind_of refusals.Truncated = kinds.Truncated
kind_of refusals.TooLarge = kinds.TooLarge
kind_of (refusals.BadRecord faults.BadKind) = kinds.BadKind
kind_of (refusals.BadRecord faults.TooLong) = kinds.TooLong
kind_of (refusals.BadRecord faults.BadCode) = kinds.BadCode

-- and the other way round
abbrev pub refusal_of : TraceKind → Refusal EntryFault
refusal_of kinds.BadHead = refusals.BadHead
refusal_of kinds.BadKind = refusals.BadRecord faults.BadKind
refusal_of kinds.Truncated = refusals.Truncated
refusal_of kinds.TooLong = refusals.BadRecord faults.TooLong
refusal_of kinds.TooLarge = refusals.TooLarge
refusal_of kinds.BadCode = refusals.BadRecord faults.BadCode

-- the step through a file of entries
abbrev pub records_step : TraceStep → RecordsStep EntryFault (Unit {0})
records_step Gave = steps.Record tt
records_step End = steps.End
records_step (Refused offset kind) = steps.Refused offset (refusal_of kind)
records_step ReadFault = steps.ReadFault

-- the entry that was given is the one that the place holds
abbrev pub given_in : EntryBuffer → Unit {0} → Entry
given_in offset given = entry_in offset

-- a step gave no entry
abbrev pub GivesNone : TraceStep → Type 0
GivesNone step = goes_on (records_step step) ≡ false
