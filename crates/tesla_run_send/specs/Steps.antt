-- What the inner steps of send come to.
use Rattle.std.specs.Prelude.{◌≡◌, ◌+◌, ℕ, suc, Option, Result, Ok, Err, List, [], ◌∷◌, ◌++◌}
use Rattle.tesla_capture.specs.Gathering.{Gathers}
use Rattle.tesla_capture.specs.Script.{Record}
use Rattle.tesla_convert.specs.declared.conversion.Ending.{Ending}
use Rattle.tesla_convert.specs.declared.conversion.Ending.TheVariants.{End, Refused}
use Rattle.tesla_convert.specs.declared.conversion.Stopped.{Stopped}
use Rattle.tesla_convert.specs.declared.conversion.Stopped.TheVariants as stopped
use Rattle.tesla_convert.specs.declared.converter.Converted.{Converted}
use Rattle.tesla_convert.specs.declared.converter.Converted.TheVariants as converted
use Rattle.tesla_desk.specs.Faults.{Faults, HasCausesBeside}
use Rattle.tesla_desk.specs.Outside.{Told, OfSource, OfSink, AppendsPrefix}
use Rattle.tesla_frame.specs.Frame.{frame_text}
use Rattle.tesla_front.specs.OutcomeView as outcome_views
use Rattle.tesla_front.specs.OutcomeView.{OutcomeView, Done, Failed}
use Rattle.tesla_front.specs.Openings.{AnyFailed, Opens, file_told}
use Rattle.tesla_front.specs.declared.fault.Fault.TheVariants as faults
use Rattle.tesla_sender.specs.Made.{Call, Stream}
use Rattle.tesla_sender.specs.Stands.{State, Stands}
use Rattle.tesla_run_send.specs.Rule.{frame_records}
use Rattle.tesla_run_send.specs.Script.{Answer, Makes, MakesNone, Refuses, call_of, reading_of}
use Rattle.tesla_run_send.specs.Send.{SendsScript, frames_line, script_line}
use Rattle.tesla_run_send.specs.declared.script_kind.ScriptKind.{ScriptKind}

-- ---- one record

-- a piece was put behind what was held, and counted; or a write failed, and a prefix of both was written
abbrev pub PutsFrame : Converted ScriptKind → List ℕ → ℕ → ℕ → Option (List ℕ) → Option (List ℕ) → List ℕ → List ℕ → Type 0
PutsFrame converted.Whole piece count counted before now held rest = (counted ≡ count + 1) × Gathers before now rest (held ++ piece)
PutsFrame (converted.Refused kind) piece count counted before now held rest = ⊥
PutsFrame converted.WriteFault piece count counted before now held rest = AppendsPrefix before now (held ++ piece)
PutsFrame converted.NoMemory piece count counted before now held rest = ⊥

-- nothing was made: what was counted, written and held is as before
pub record Unmoved (count counted : ℕ) (before now : Option (List ℕ)) (held rest : List ℕ) : Type 0 where
  pub count_is : counted ≡ count
  pub written : now ≡ before
  pub held_is : rest ≡ held

-- the answer to a record was carried out by a sender that stands for the log: the frame that it makes was put, and the sender stands for one call more; nothing was made; or it is refused
abbrev pub CarriesOut : Converted ScriptKind → Answer → Record → List Call → State → ℕ → ℕ → Option (List ℕ) → Option (List ℕ) → List ℕ → List ℕ → Type 0
CarriesOut converted.Whole (Makes frame) first log sender count counted before now held rest =
    Stands sender (log ++ call_of first ∷ []) × PutsFrame converted.Whole (frame_records (reading_of first) (frame_text frame)) count counted before now held rest
CarriesOut converted.Whole MakesNone first log sender count counted before now held rest = Stands sender log × Unmoved count counted before now held rest
CarriesOut (converted.Refused kind) (Refuses other) first log sender count counted before now held rest = (kind ≡ other) × Unmoved count counted before now held rest
CarriesOut converted.WriteFault (Makes frame) first log sender count counted before now held rest = PutsFrame converted.WriteFault (frame_records (reading_of first) (frame_text frame)) count counted before now held rest
CarriesOut _ _ first log sender count counted before now held rest = ⊥

-- ---- all records

-- what sending came to, told how the records ended, and the count of frames
abbrev pub outcome_with : Result (Ending ScriptKind) Stopped → ℕ → OutcomeView
outcome_with (Ok End) count = Done (frames_line count)
outcome_with (Ok (Refused offset kind)) count = outcome_views.Refused 3 (script_line offset kind)
outcome_with (Err stopped.Read) count = Failed faults.Read
outcome_with (Err stopped.Write) count = Failed faults.Write
outcome_with (Err stopped.Memory) count = Failed faults.NoMemory

-- ---- the files

-- each failure raised its count, and no other count rose; only behind a failed read the output may have failed too
abbrev pub Counts : List ℕ → Told → Faults → OutcomeView → Type 0
Counts out new before outcome =
    HasCausesBeside ((outcome ≡ Failed faults.Read) × AnyFailed (OfSink out ∷ []) new) before new.faults (outcome ≡ Failed faults.Read) (outcome ≡ Failed faults.Write) (outcome ≡ Failed faults.Open)

-- a script was sent, after it was opened and then the output, behind the setup and the seeds
pub record SendsFiles (stream : Stream) (name out : List ℕ) (old new : Told) (outcome : OutcomeView) : Type 0 where
  pub opened : ℕ
  pub opens : Opens (OfSource name ∷ OfSink out ∷ []) opened old new
  pub sends : SendsScript stream (file_told old name) (file_told old out) (file_told new name) (file_told new out) (suc (suc opened)) outcome
  pub counts : Counts out new old.faults outcome
