-- What a command does that reads a setup and plays a capture under it.
use Rattle.std.specs.Prelude.{◌≡◌, ◌⊎◌, ℕ, Option, Some, None, List, [], ◌∷◌, codes}
use Rattle.tesla_capture.specs.Names.{kind_name}
use Rattle.tesla_capture.specs.declared.record.RecordKind.{RecordKind}
use Rattle.tesla_commit.specs.Parts.{Parts}
use Rattle.tesla_fitting.specs.declared.config.Config.{Config}
use Rattle.tesla_front.specs.OutcomeView.{OutcomeView, Done, Refused, Failed}
use Rattle.tesla_front.specs.Command.{Command}
use Rattle.tesla_front.specs.Openings.{File}
use Rattle.tesla_front.specs.Refusal.{refused_line}
use Rattle.tesla_front.specs.Setup.{IsSetupIn}
use Rattle.tesla_front.specs.declared.fault.Fault.TheVariants as faults
use Rattle.tesla_convert.specs.Meaning.{Converts, IsUnread, Meaning, StopsAtSetup}
use Rattle.tesla_run_replay.specs.Arguments.{IsPlayed, PlayedArguments, PlayedForm, files_of}

-- such a command: the form of its words, and what a capture comes to for a receiver of a configuration, and what is written
pub record PlayedCommand : Type 1 where
  pub form : PlayedForm
  pub meaning : Config → Meaning

-- the configuration of a receiver of such words, with one ingest
abbrev pub config_of : PlayedArguments → Parts → Config
config_of arguments setup =
    record { setup = setup; lag = arguments.lag; capacity = arguments.limits.capacity; quota = arguments.limits.quota; ingests = 1 }

-- what a capture of that refused place comes to where nothing fails: the lines that tell what was played, or the place
abbrev pub end_outcome : Option (ℕ × RecordKind) → List ℕ → OutcomeView
end_outcome None lines = Done lines
end_outcome (Some fault) lines = Refused 3 (refused_line (codes "capture") fault.0 (kind_name fault.1))

-- under the setup the capture was played, told what there was of each file before, and of the capture and the output afterwards, and how many files were asked for, of which the setup is the first
pub record PlaysUnder (meaning : Parts → Meaning) (setup capture capture_now out out_now : File) (opened : ℕ) (outcome : OutcomeView) : Type 0 where
  pub parts : Parts
  pub found : IsSetupIn setup.page parts
  pub converts : Converts (meaning parts) capture.page capture_now.left out.page out_now.page outcome
  -- memory is wanting only before the first byte of the capture is read, unless it may be wanting later
  pub unread : ((meaning parts).MayWant → ⊥) → outcome ≡ Failed faults.NoMemory → IsUnread 1 opened capture.page capture_now.left

-- what such a command does: there is no setup, or the capture was played under it
abbrev pub DoesUnder : (Parts → Meaning) → ℕ → List File → List File → OutcomeView → Type 0
DoesUnder meaning opened (setup ∷ capture ∷ out ∷ []) (setup_now ∷ capture_now ∷ out_now ∷ []) outcome =
    StopsAtSetup setup opened outcome ⊎ PlaysUnder meaning setup capture capture_now out out_now opened outcome
DoesUnder meaning opened before after outcome = ⊥

-- the command: its words, its files and what it does
abbrev pub command_of : PlayedCommand → Command
command_of played = record {
  Arguments = PlayedArguments;
  IsForm = IsPlayed played.form;
  files = files_of;
  Does = λ arguments. DoesUnder (λ setup. played.meaning (config_of arguments setup));
}
