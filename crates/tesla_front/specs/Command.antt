-- What a command is, and what performing it comes to.
use Rattle.std.specs.Prelude.{◌≡◌, ℕ, List}
use Rattle.tesla_desk.specs.Faults.{HasCausesBeside}
use Rattle.tesla_desk.specs.Outside.{Opening, Told}
use Rattle.tesla_front.specs.OutcomeView.{OutcomeView, Usage, Failed}
use Rattle.tesla_front.specs.Openings.{AreFiles, AnyFailed, File, Opens, files_told}
use Rattle.tesla_front.specs.declared.fault.Fault.TheVariants as faults

pub record Command : Type 1 where
  -- what its words ask for, and which words ask for that
  pub Arguments : Type 0
  pub IsForm : Arguments → List (List ℕ) → Type 0
  -- its files in the order in which they are opened; its outputs are the sinks among them
  pub files : Arguments → List Opening
  -- what it does: so many of its files were asked to be opened, this is told of all of them before and afterwards, and this it came to
  pub Does : Arguments → ℕ → List File → List File → OutcomeView → Type 0

-- no command: no words are a form of it
abbrev pub no_command : Command
no_command = record { Arguments = ⊥; IsForm = λ arguments words. ⊥; files = λ arguments. absurd arguments; Does = λ arguments opened before after outcome. ⊥ }

-- the words are no form of the command
abbrev pub IsNoForm : Command → List (List ℕ) → Type 0
IsNoForm command words = (arguments : command.Arguments) → command.IsForm arguments words → ⊥

-- a run of the command over a desk, and what it came to
pub record Performs (command : Command) (arguments : command.Arguments) (old new : Told) (outcome : OutcomeView) : Type 0 where
  pub named : AreFiles (command.files arguments)
  pub opened : ℕ
  pub opens : Opens (command.files arguments) opened old new
  pub does : command.Does arguments opened (files_told old (command.files arguments)) (files_told new (command.files arguments)) outcome
  -- it came to the first thing that failed: no count rose but for that; only behind a failed read the output may have failed too, while what was made before was written
  pub counts : HasCausesBeside ((outcome ≡ Failed faults.Read) × AnyFailed (command.files arguments) new) old.faults new.faults (outcome ≡ Failed faults.Read) (outcome ≡ Failed faults.Write) (outcome ≡ Failed faults.Open)

-- the words were run as those of the command: as the form that they are, or nothing was done
pub record RunsAs (command : Command) (words : List (List ℕ)) (old new : Told) (outcome : OutcomeView) : Type 0 where
  pub form : (arguments : command.Arguments) → command.IsForm arguments words → Performs command arguments old new outcome
  pub usage : IsNoForm command words → (outcome ≡ Usage) × (new ≡ old)
