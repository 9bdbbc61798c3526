-- What a command that prints lines meanwhile is, and one run of it.
use Rattle.std.specs.Prelude.{◌≡◌, ◌≢◌, ◌⊎◌, ℕ, ◌<◌, true, false, Option, List, [], ◌∷◌, ◌++◌, take, codes}
use Rattle.tesla_desk.specs.Faults.{Faults, HasCausesBeside, after_sink}
use Rattle.tesla_desk.specs.Outside.{Opening, OfSource, OfSink, Page, Untold, Absent, Holds, Told, AppendsPrefix, with_bytes, with_openings}
use Rattle.tesla_front.specs.OutcomeView.{OutcomeView, Done, Failed, IsDone, outcome_view, text_of}
use Rattle.tesla_front.specs.Files.{IsPrefix}
use Rattle.tesla_front.specs.Openings.{AreFiles, AnyFailed, File, IsAmong, Opens, files_told}
use Rattle.tesla_front.specs.Run.{HasNoConsole, TellsUsage, console}
use Rattle.tesla_front.specs.declared.fault.Fault.{Fault}
use Rattle.tesla_front.specs.declared.fault.Fault.TheVariants as faults
use Rattle.tesla_front.specs.declared.outcome.Outcome.TheVariants as outcomes
use Rattle.tesla_front.specs.declared.printed.Printed.{Printed}
use Rattle.tesla_front.specs.declared.printed.Printed.TheVariants.{Whole, Broken}

-- ---- the console

-- something went wrong outside
abbrev pub IsFault : OutcomeView → Type 0
IsFault (Failed fault) = Unit {0}
IsFault _ = ⊥

-- the lines of a summary, where there is one
abbrev pub summary_of : OutcomeView → List ℕ
summary_of (Done lines) = lines
summary_of _ = []

-- what the console holds where a write to it failed, behind which nothing more was written: all lines, and a prefix of what tells what came, which stays; or a prefix of the lines, and a fault that came before stays; or a prefix of the lines and of a summary behind them, which is a write fault where there was no other
abbrev pub BreaksAfter : List ℕ → List ℕ → OutcomeView → OutcomeView → List ℕ → Type 0
BreaksAfter lines usage outcome reported text =
    ((reported ≡ outcome) × (IsDone outcome → ⊥) × ((n : ℕ) × (text ≡ lines ++ take n (text_of usage outcome))))
    ⊎ ((reported ≡ outcome) × IsFault outcome × IsPrefix lines text)
    ⊎ ((reported ≡ Failed faults.Write) × (IsFault outcome → ⊥) × IsPrefix (lines ++ summary_of outcome) text)

-- the console after some lines and what came behind them, with how many writes to it failed: it holds exactly the lines, and then what tells what came
abbrev pub ShowsAfter : List ℕ → List ℕ → OutcomeView → OutcomeView → ℕ → Page → Type 0
ShowsAfter lines usage outcome reported failed Untold = (reported ≡ outcome) ⊎ ((reported ≡ Failed faults.Write) × (IsFault outcome → ⊥) × (0 < failed))
ShowsAfter lines usage outcome reported failed Absent = ⊥
ShowsAfter lines usage outcome reported failed (Holds text false) = (reported ≡ outcome) × (failed ≡ 0) × (text ≡ lines ++ text_of usage outcome)
ShowsAfter lines usage outcome reported failed (Holds text true) = (0 < failed) × BreaksAfter lines usage outcome reported text

-- ---- the steps

-- a write of the lines failed: this is what went wrong first, told what came but for that
abbrev pub FailsFirst : OutcomeView → Fault → Type 0
FailsFirst outcome fault = (outcome ≡ Failed fault) ⊎ ((fault ≡ faults.Write) × (IsFault outcome → ⊥))

-- the lines were written on a sink, on which so many writes failed then, and this came behind them; or a write of them failed
abbrev pub PrintsLines : List ℕ → OutcomeView → Printed → Option (List ℕ) → Option (List ℕ) → ℕ → Type 0
PrintsLines lines outcome (Whole whole) before now failed = (outcome ≡ outcome_view whole) × (failed ≡ 0) × (now ≡ with_bytes before lines)
PrintsLines lines outcome (Broken fault) before now failed = FailsFirst outcome fault × (0 < failed) × AppendsPrefix before now lines

-- what came is told behind the lines, with all that tells it; or with a prefix of that, and a summary that isn't written whole is a write fault
abbrev pub TellsBehind : List ℕ → OutcomeView → OutcomeView → Option (List ℕ) → Option (List ℕ) → ℕ → Type 0
TellsBehind usage outcome reported before now failed =
    ((reported ≡ outcome) × (failed ≡ 0) × (now ≡ with_bytes before (text_of usage outcome)))
    ⊎ ((reported ≡ outcome) × (IsDone outcome → ⊥) × (0 < failed) × AppendsPrefix before now (text_of usage outcome))
    ⊎ ((reported ≡ Failed faults.Write) × IsDone outcome × (0 < failed) × AppendsPrefix before now (text_of usage outcome))

-- what was printed is told; behind a failed write nothing is written
abbrev pub TellsPrinted : List ℕ → Printed → OutcomeView → Option (List ℕ) → Option (List ℕ) → ℕ → ℕ → Type 0
TellsPrinted usage (Whole outcome) reported before now old new = TellsBehind usage (outcome_view outcome) reported before now new
TellsPrinted usage (Broken fault) reported before now old new = (reported ≡ Failed fault) × (now ≡ before) × (new ≡ old)

-- where all lines were written, no write failed
abbrev pub IsSound : Printed → ℕ → Type 0
IsSound (Whole outcome) failed = failed ≡ 0
IsSound (Broken fault) failed = Unit {0}

-- ---- the command

pub record PrintingCommand : Type 1 where
  -- what its words ask for, and which words ask for that
  pub Arguments : Type 0
  pub IsForm : Arguments → List (List ℕ) → Type 0
  -- its files in the order in which they are opened; its outputs are the sinks among them
  pub files : Arguments → List Opening
  -- what it does: so many of its files were asked to be opened, this is told of all of them before and afterwards, these lines are printed, and this it came to behind them, unless the console fails
  pub Does : Arguments → ℕ → List File → List File → List ℕ → OutcomeView → Type 0

-- the words are no form of the command
abbrev pub IsNoPrintingForm : PrintingCommand → List (List ℕ) → Type 0
IsNoPrintingForm command words = (arguments : command.Arguments) → command.IsForm arguments words → ⊥

-- a run of the command over a desk of which the console is open: what is written there before and afterwards, and how many writes to it failed
pub record PerformsPrinting (command : PrintingCommand) (arguments : command.Arguments) (old new : Told) (before written : Option (List ℕ)) (failed : ℕ) (printed : Printed) : Type 0 where
  pub named : AreFiles (command.files arguments)
  pub opened : ℕ
  pub opens : Opens (command.files arguments) opened old new
  pub lines : List ℕ
  pub outcome : OutcomeView
  pub does : command.Does arguments opened (files_told old (command.files arguments)) (files_told new (command.files arguments)) lines outcome
  -- no count rose but for what it came to; only behind a failed read an output may have failed too
  pub counts : HasCausesBeside ((outcome ≡ Failed faults.Read) × AnyFailed (command.files arguments) new) old.faults new.faults (outcome ≡ Failed faults.Read) (outcome ≡ Failed faults.Write) (outcome ≡ Failed faults.Open)
  pub prints : PrintsLines lines outcome printed before written failed

-- the words were run as those of the command: as the form that they are, or nothing was done or printed
pub record PrintsAs (command : PrintingCommand) (words : List (List ℕ)) (old new : Told) (before written : Option (List ℕ)) (failed : ℕ) (printed : Printed) : Type 0 where
  pub form : (arguments : command.Arguments) → command.IsForm arguments words → PerformsPrinting command arguments old new before written failed printed
  pub usage : IsNoPrintingForm command words → (printed ≡ Whole outcomes.Usage) × (new ≡ old) × (written ≡ before) × (failed ≡ 0)

-- ---- a run with the console

-- words that are a form: the console was opened, the command did what it does, and the console has its lines and is told what it came to
pub record IsPrintedAs (command : PrintingCommand) (arguments : command.Arguments) (usage : List ℕ) (old new : Told) (reported : OutcomeView) : Type 0 where
  -- after the console so many of its files were asked to be opened, in order
  pub opened : ℕ
  pub asked : new.openings ≡ with_openings old.openings (console ∷ take opened (command.files arguments))
  -- what is neither the console nor an output that was asked for is as before, and of what isn't an input that was asked for nothing was read
  pub pages : (name : List ℕ) → name ≢ codes "-" → (IsAmong (OfSink name) (take opened (command.files arguments)) → ⊥) → new.page name ≡ old.page name
  pub lefts : (name : List ℕ) → (IsAmong (OfSource name) (take opened (command.files arguments)) → ⊥) → new.left name ≡ old.left name
  -- the command did what it does: it printed these lines, and came to this behind them, or to the first thing that failed but for the console
  pub lines : List ℕ
  pub outcome : OutcomeView
  pub does : command.Does arguments opened (files_told old (command.files arguments)) (files_told new (command.files arguments)) lines outcome
  pub before_console : Faults
  pub counts : HasCausesBeside ((outcome ≡ Failed faults.Read) × AnyFailed (command.files arguments) new) old.faults before_console (outcome ≡ Failed faults.Read) (outcome ≡ Failed faults.Write) (outcome ≡ Failed faults.Open)
  -- and so the console shows it, on which so many writes failed
  pub failed : ℕ
  pub closed : new.faults ≡ after_sink before_console failed
  pub shows : ShowsAfter lines usage outcome reported failed (new.page (codes "-"))

-- a run with the console opened
pub record HasPrinted (command : PrintingCommand) (usage : List ℕ) (words : List (List ℕ)) (old new : Told) (reported : OutcomeView) : Type 0 where
  pub no_form : IsNoPrintingForm command words → TellsUsage usage old new reported
  pub form : (arguments : command.Arguments) → command.IsForm arguments words → IsPrintedAs command arguments usage old new reported

-- one run of the words over a desk: what it tells before and after, and what the run came to, as it was told
abbrev pub RunsPrinting : PrintingCommand → List ℕ → List (List ℕ) → Told → Told → OutcomeView → Type 0
RunsPrinting command usage words old new reported = HasNoConsole old new reported ⊎ HasPrinted command usage words old new reported
