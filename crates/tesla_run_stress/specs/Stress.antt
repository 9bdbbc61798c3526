-- What stress comes to: the report of a load.
use Rattle.std.specs.Prelude.{◌≡◌, ◌⊎◌, ℕ, true, List, []}
use Rattle.tesla_front.specs.OutcomeView.{OutcomeView, Done, Failed}
use Rattle.tesla_front.specs.Command.{Command}
use Rattle.tesla_front.specs.Openings.{File}
use Rattle.tesla_front.specs.declared.fault.Fault.TheVariants as faults
use Rattle.tesla_receiver.specs.Entries.{Entry}
use Rattle.tesla_replay.specs.Played.{played}
use Rattle.tesla_receiver.specs.Report.{report_of}
use Rattle.tesla_run_replay.specs.ReportText.{report_text}
use Rattle.tesla_run_stress.specs.Base.{base_config, base_stream}
use Rattle.tesla_run_stress.specs.Load.{load}
use Rattle.tesla_run_stress.specs.Arguments.{StressArguments, IsStress, files_of_stress}

-- the one history that the load of the words plays, with its end
abbrev pub history_of : StressArguments → List Entry
history_of arguments = played (base_config arguments.count) (load (base_stream arguments.count) arguments.seed arguments.count) true

-- it came to the report of that history, or to want of memory
abbrev pub IsReport : StressArguments → OutcomeView → Type 0
IsReport arguments outcome = (outcome ≡ Done (report_text (report_of (history_of arguments)))) ⊎ (outcome ≡ Failed faults.NoMemory)

-- a run of the command, which has no files
abbrev pub DoesStress : StressArguments → ℕ → List File → List File → OutcomeView → Type 0
DoesStress arguments opened [] [] outcome = IsReport arguments outcome
DoesStress arguments opened before after outcome = ⊥

-- the command
abbrev pub stress : Command
stress = record { Arguments = StressArguments; IsForm = IsStress; files = files_of_stress; Does = DoesStress }
