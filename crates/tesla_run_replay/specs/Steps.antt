-- What the inner steps of a replay come to.
use Rattle.std.specs.Prelude.{◌≡◌, ℕ, Result, Ok, Err, List, codes}
use Rattle.tesla_capture.specs.Capture.{Record}
use Rattle.tesla_capture.specs.Names.{kind_name}
use Rattle.tesla_capture.specs.declared.record.RecordKind.{RecordKind}
use Rattle.tesla_front.specs.OutcomeView.{OutcomeView, Done, Refused, Failed}
use Rattle.tesla_front.specs.Refusal.{refused_line}
use Rattle.tesla_front.specs.declared.fault.Fault.TheVariants as faults
use Rattle.tesla_convert.specs.declared.conversion.Ending.{Ending}
use Rattle.tesla_convert.specs.declared.conversion.Ending.TheVariants as endings
use Rattle.tesla_convert.specs.declared.conversion.Stopped.{Stopped}
use Rattle.tesla_convert.specs.declared.conversion.Stopped.TheVariants.{Read, Write, Memory}
use Rattle.tesla_run_replay.specs.Playing.{EventRule, events_in, with_end}

-- what a conversion that ended so comes to: lines that tell what was played, by the rule of the target, or the refused place, or the fault
abbrev pub TellsEnd : EventRule → (List Record → Type 0) → Result (Ending RecordKind) Stopped → OutcomeView → Type 0
TellsEnd rule Ended (Ok endings.End) outcome = (text : List ℕ) × (outcome ≡ Done text) × ((records : List Record) → Ended records → text ≡ rule.tells (with_end rule (events_in records)))
TellsEnd rule Ended (Ok (endings.Refused offset kind)) outcome = outcome ≡ Refused 3 (refused_line (codes "capture") offset (kind_name kind))
TellsEnd rule Ended (Err Read) outcome = outcome ≡ Failed faults.Read
TellsEnd rule Ended (Err Write) outcome = outcome ≡ Failed faults.Write
TellsEnd rule Ended (Err Memory) outcome = outcome ≡ Failed faults.NoMemory
