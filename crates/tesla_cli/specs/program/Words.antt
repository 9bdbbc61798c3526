-- What the program does with the words that the system hands over.
use Rattle.std.specs.Prelude.{◌≡◌, ℕ, List, [], ◌∷◌}
use Rattle.tesla_desk.specs.Outside.{Told}
use Rattle.tesla_front.specs.OutcomeView.{OutcomeView, Failed, status_of}
use Rattle.tesla_front.specs.Command.{Command}
use Rattle.tesla_front.specs.Run.{Runs}
use Rattle.tesla_front.specs.declared.fault.Fault.TheVariants.{NoMemory}
use Rattle.tesla_cli.specs.declared.program.about.About.{About}
use Rattle.tesla_cli.specs.program.About.{Prints, word_of}
use Rattle.tesla_cli.specs.program.Choice.{RunsChosen}

-- the words were run by the table that they choose, and the program ends with the status of what that came to
abbrev pub EndsChosen : List (List ℕ) → Told → Told → ℕ → Type 0
EndsChosen words old new status = (reported : OutcomeView) × (status ≡ status_of reported) × RunsChosen words old new reported

-- a run of the program, and the status that it ends with: the text that the words ask for was printed, and words that ask for none were run by their table
pub record RunsProgram (words : List (List ℕ)) (old new : Told) (status : ℕ) : Type 0 where
  pub text : (about : About) → words ≡ word_of about ∷ [] → Prints old new status
  pub command : ((about : About) → words ≡ word_of about ∷ [] → ⊥) → EndsChosen words old new status

-- what comes of words for which there is no memory: no file is opened
abbrev pub forgotten : Command
forgotten = record { Arguments = Unit {0}; IsForm = λ arguments words. Unit {0}; files = λ arguments. []; Does = λ arguments opened before after outcome. outcome ≡ Failed NoMemory }

-- there was no memory for the words: that is told on the console where it opens, nothing else is opened, and the status says so
pub record LacksMemory (old new : Told) (status : ℕ) : Type 0 where
  pub status_is : status ≡ 6
  pub told : (reported : OutcomeView) × Runs forgotten [] [] old new reported
