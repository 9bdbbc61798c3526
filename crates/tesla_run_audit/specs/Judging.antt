-- A trace that is judged entry by entry.
use Rattle.std.specs.Prelude.{◌≡◌, ℕ, ◌<◌, ◌≤◌, true, Option, Some, None, Result, List, [], ◌∷◌, ◌++◌, length, codes}
use Rattle.arrayvec.specs.ArrayString.{ArrayString}
use Rattle.tesla_fitting.specs.declared.config.Config.{Config}
use Rattle.tesla_front.specs.OutcomeView.{OutcomeView, Done, Usage, Refused, Failed, result_view}
use Rattle.tesla_front.specs.Lines.{count_line}
use Rattle.tesla_front.specs.Refusal.{refused_line}
use Rattle.tesla_front.specs.declared.fault.Fault.TheVariants as faults
use Rattle.tesla_front.specs.declared.refusal.Stop.{Stop}
use Rattle.tesla_receiver.specs.Stands.{Stands}
use Rattle.tesla_receiver.specs.Entries.{Entry}
use Rattle.tesla_records.specs.Grammar.{limit}
use Rattle.tesla_records.specs.Steps.{Progress, ahead}
use Rattle.tesla_records.specs.Taken.{IsTaken}
use Rattle.tesla_state.specs.State.{State}
use Rattle.tesla_trace.specs.Grammar.{trace}
use Rattle.tesla_trace.specs.Names.{kind_name}
use Rattle.tesla_audit.specs.declared.step.TraceStep.{TraceStep}
use Rattle.tesla_audit.specs.declared.step.TraceStep.TheVariants as steps
use Rattle.tesla_run_audit.specs.Audit.{AuditsBytes}

-- so many entries were taken from the bytes and judged, and all are right; the receiver stands for them
pub record IsBehind (cfg : ℕ → Config) (bytes : List ℕ) (count : ℕ) (state : State) (reader : Progress ℕ) (left : Option (List ℕ)) : Type 0 where
  pub ingests : ℕ
  pub judged : List Entry
  pub rest : List ℕ
  pub counted : count ≡ length judged
  pub config_is : state.config ≡ cfg ingests
  pub head_is : reader.head ≡ Some ingests
  pub stands : Stands state judged
  pub placed : 0 < reader.place
  pub ahead_is : ahead reader left ≡ Some rest
  pub taken : IsTaken trace bytes (Some ingests) judged reader.place rest

-- the same, and behind them the entry was taken that is judged next
pub record IsAt (cfg : ℕ → Config) (bytes : List ℕ) (state : State) (reader : Progress ℕ) (left : Option (List ℕ)) (next : Entry) : Type 0 where
  pub ingests : ℕ
  pub judged : List Entry
  pub rest : List ℕ
  pub config_is : state.config ≡ cfg ingests
  pub head_is : reader.head ≡ Some ingests
  pub stands : Stands state judged
  pub placed : 0 < reader.place
  pub ahead_is : ahead reader left ≡ Some rest
  pub taken : IsTaken trace bytes (Some ingests) (judged ++ next ∷ []) reader.place rest

-- a step came to an entry more, or to the end of the audit
abbrev pub StepsTo : (ℕ → Config) → List ℕ → Option (Result ArrayString Stop) → State → Progress ℕ → Option (List ℕ) → Entry → Type 0
StepsTo cfg bytes None state reader left next = IsAt cfg bytes state reader left next
StepsTo cfg bytes (Some outcome) state reader left next = AuditsBytes cfg bytes left (result_view outcome)

-- the reader took an entry
pub record GoesUp (old new : Progress ℕ) : Type 0 where
  pub rises : old.place < new.place
  pub limited : new.place ≤ limit
  pub going : new.going ≡ true

-- what a step without an entry comes to behind so many that are right
abbrev pub stop_at : TraceStep → ℕ → OutcomeView
stop_at steps.Entry entries = Usage
stop_at steps.End entries = Done (count_line (codes "legal") entries)
stop_at (steps.Refused offset kind) entries = Refused 3 (refused_line (codes "trace") offset (kind_name kind))
stop_at steps.ReadFault entries = Failed faults.Read
