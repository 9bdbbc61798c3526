-- What info comes to, and which setups it refuses.
use Rattle.std.specs.Prelude.{◌≡◌, ◌⊎◌, ℕ, ◌≤◌, Option, None, List, [], ◌∷◌}
use Rattle.tesla_commit.specs.Equal.{first_equal}
use Rattle.tesla_commit.specs.Parts.{Parts}
use Rattle.tesla_desk.specs.Live.{Live}
use Rattle.tesla_desk.specs.Outside.{Page}
use Rattle.tesla_front.specs.OutcomeView.{OutcomeView, Done, Refused, Failed}
use Rattle.tesla_front.specs.Command.{Command}
use Rattle.tesla_front.specs.Openings.{File}
use Rattle.tesla_front.specs.Setup.{IsNoSetup, IsSetupIn}
use Rattle.tesla_front.specs.declared.fault.Fault.TheVariants as faults
use Rattle.tesla_run_info.specs.info.Arguments.{InfoArguments, IsInfoForm, files_of_info}
use Rattle.tesla_run_info.specs.info.Left.{IsFirstReading, with_clock}
use Rattle.tesla_run_info.specs.info.Lines.{IsInfo}
use Rattle.tesla_run_info.specs.info.Rows.{RefusesEqual}

-- the lines of a setup were told at the first reading of the next clock
pub record TellsAt (before now : Live) (rate : Option ℕ) (setup : Parts) (lines : List ℕ) : Type 0 where
  pub reading : ℕ
  pub clock : IsFirstReading reading before
  pub clock_made : now ≡ with_clock before
  pub told : IsInfo rate reading setup lines

-- what telling a setup comes to: its lines, where no two commitments are equal; else no clock was made, nor where there was no memory
abbrev pub TellsInfo : Live → Live → Option ℕ → Parts → OutcomeView → Type 0
TellsInfo before now rate setup (Done lines) = (first_equal setup.rows ≡ None) × TellsAt before now rate setup lines
TellsInfo before now rate setup (Refused status line) = RefusesEqual setup (Refused status line) × (now ≡ before)
TellsInfo before now rate setup (Failed fault) = (fault ≡ faults.NoMemory) × (now ≡ before)
TellsInfo before now rate setup _ = ⊥

-- there is no setup, and no clock was made
pub record LacksSetup (before now : Live) (opened : ℕ) (page : Page) (outcome : OutcomeView) : Type 0 where
  pub alone : opened ≤ 1
  pub same : now ≡ before
  pub why : IsNoSetup page outcome

-- the setup was read, and told
pub record TellsSetup (before now : Live) (rate : Option ℕ) (page : Page) (outcome : OutcomeView) : Type 0 where
  pub setup : Parts
  pub found : IsSetupIn page setup
  pub told : TellsInfo before now rate setup outcome

-- a run of the command, of which so many files were asked to be opened, with what is told of SETUP before and after it, and what it came to
abbrev pub DoesInfo : Live → Live → InfoArguments → ℕ → List File → List File → OutcomeView → Type 0
DoesInfo before now arguments opened (setup ∷ []) (read ∷ []) outcome = LacksSetup before now opened setup.page outcome ⊎ TellsSetup before now arguments.rate setup.page outcome
DoesInfo before now arguments opened files files_now outcome = ⊥

-- the command, told what the desk has of links, posts and clocks before and afterwards: its words, its files and what it does
abbrev pub info : Live → Live → Command
info before now = record { Arguments = InfoArguments; IsForm = IsInfoForm; files = files_of_info; Does = DoesInfo before now }

-- ---- what the run leaves

-- what is told of links, posts and clocks is as before, but that one clock more may have been made
abbrev pub TouchesClock : Live → Live → Type 0
TouchesClock before now = (now ≡ before) ⊎ (now ≡ with_clock before)
