-- The setup under a name, or why there is none.
use Rattle.std.specs.Prelude.{◌≡◌, ◌⊎◌, ℕ, Ok, Err, List, codes}
use Rattle.tesla_commit.specs.Names.{kind_name}
use Rattle.tesla_commit.specs.Parts.{Parts}
use Rattle.tesla_commit.specs.Parsing.{judged}
use Rattle.tesla_commit.specs.declared.refusal.SetupKind.{SetupKind}
use Rattle.tesla_desk.specs.Outside.{Page}
use Rattle.tesla_front.specs.OutcomeView.{OutcomeView, Refused, Failed}
use Rattle.tesla_front.specs.Files.{HoldsWhere, IsRefusedIn}
use Rattle.tesla_front.specs.Refusal.{refused_line}
use Rattle.tesla_front.specs.declared.fault.Fault.TheVariants.{NoMemory}

-- the text spells this setup
abbrev pub IsSetupText : List ℕ → Parts → Type 0
IsSetupText text setup = judged text ≡ Ok setup

-- what a refused line of a setup comes to
abbrev pub setup_refused : ℕ × SetupKind → OutcomeView
setup_refused why = Refused 2 (refused_line (codes "setup") why.0 (kind_name why.1))

-- why a text gives no setup: its first refused line, or there was no memory
abbrev pub IsNoSetupText : List ℕ → OutcomeView → Type 0
IsNoSetupText text outcome = ((why : ℕ × SetupKind) × (judged text ≡ Err why) × (outcome ≡ setup_refused why)) ⊎ (outcome ≡ Failed NoMemory)

-- there is a file, and its text spells this setup where it is told
abbrev pub IsSetupIn : Page → Parts → Type 0
IsSetupIn page setup = HoldsWhere page (λ text. IsSetupText text setup)

-- why a file gives no setup
abbrev pub IsNoSetup : Page → OutcomeView → Type 0
IsNoSetup page outcome = IsRefusedIn page IsNoSetupText outcome
