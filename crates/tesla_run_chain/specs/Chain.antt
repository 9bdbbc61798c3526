-- The setup that seeds make, and what SETUP-OUT holds.
use Rattle.std.specs.Prelude.{◌≡◌, ◌⊎◌, ◌≤◌, ℕ, List, [], ◌∷◌, length, codes}
use Rattle.tesla_base.specs.declared.names.Key.{Key}
use Rattle.tesla_commit.specs.Parts.{Parts}
use Rattle.tesla_commit.specs.SetupText.{IsSetup, setup_text}
use Rattle.tesla_desk.specs.Outside.{Page}
use Rattle.tesla_front.specs.OutcomeView.{OutcomeView, Done, Failed}
use Rattle.tesla_front.specs.Command.{Command}
use Rattle.tesla_front.specs.Files.{HoldsWhere, HasFailed, IsPrefix}
use Rattle.tesla_front.specs.Lines.{count_line}
use Rattle.tesla_front.specs.Openings.{File}
use Rattle.tesla_front.specs.Seeds.{IsSeedsIn, IsNoSeeds}
use Rattle.tesla_front.specs.declared.fault.Fault.TheVariants as faults
use Rattle.tesla_run_chain.specs.Arguments.{ChainArguments, IsChain, files_of_chain}
use Rattle.tesla_sender_setup.specs.Made.{setup_made}

-- the line that tells how many chains there are
abbrev pub chains_line : ℕ → List ℕ
chains_line count = count_line (codes "chains") count

-- what writing a setup comes to, with the page of SETUP-OUT before and afterwards
abbrev pub WritesSetup : Parts → Page → Page → OutcomeView → Type 0
WritesSetup setup before after (Done lines) = (lines ≡ chains_line (length setup.rows)) × HoldsWhere after (λ written. IsSetup written setup)
WritesSetup setup before after (Failed faults.Write) = HoldsWhere after (IsPrefix (setup_text setup)) × HasFailed after
-- memory is wanting only before SETUP-OUT is opened
WritesSetup setup before after (Failed faults.NoMemory) = after ≡ before
WritesSetup setup before after (Failed faults.Open) = after ≡ before
WritesSetup setup before after _ = ⊥

-- there are no such seeds in SECRET, and SETUP-OUT wasn't asked for
pub record LacksSeeds (arguments : ChainArguments) (opened : ℕ) (secret : Page) (outcome : OutcomeView) : Type 0 where
  pub alone : opened ≤ 1
  pub why : IsNoSeeds (length arguments.parameters.delays) secret outcome

-- from the seeds in SECRET the setup was made, and then written
pub record MakesSetup (arguments : ChainArguments) (secret before after : Page) (outcome : OutcomeView) : Type 0 where
  pub seeds : List Key
  pub count : length seeds ≡ length arguments.parameters.delays
  pub found : IsSeedsIn (length arguments.parameters.delays) secret seeds
  pub writes : WritesSetup (setup_made arguments.parameters seeds) before after outcome

-- a run of the command, of which so many files were asked to be opened, with what is told of SECRET and SETUP-OUT before and after it, and what it came to
abbrev pub DoesChain : ChainArguments → ℕ → List File → List File → OutcomeView → Type 0
DoesChain arguments opened (secret ∷ out ∷ []) (read ∷ written ∷ []) outcome =
    LacksSeeds arguments opened secret.page outcome ⊎ MakesSetup arguments secret.page out.page written.page outcome
DoesChain arguments opened before after outcome = ⊥

-- the command: chain and chain2, the version is among what the words ask for
abbrev pub chain : Command
chain = record { Arguments = ChainArguments; IsForm = IsChain; files = files_of_chain; Does = DoesChain }
