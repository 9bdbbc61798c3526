-- What seeds comes to, and what SECRET-OUT holds.
use Rattle.std.specs.Prelude.{◌≡◌, ◌⊎◌, ℕ, ◌≤◌, List, [], ◌∷◌, length, codes}
use Rattle.tesla_base.specs.declared.names.Key.{Key}
use Rattle.tesla_desk.specs.Outside.{Page}
use Rattle.tesla_front.specs.OutcomeView.{OutcomeView, Done, Failed}
use Rattle.tesla_front.specs.Command.{Command}
use Rattle.tesla_front.specs.Files.{HoldsWhere, HasFailed, IsPrefix, IsRefusedIn}
use Rattle.tesla_front.specs.Lines.{count_line}
use Rattle.tesla_front.specs.Openings.{File}
use Rattle.tesla_front.specs.declared.fault.Fault.TheVariants as faults
use Rattle.tesla_seeds.specs.Text.{IsSeeds, seeds_text}
use Rattle.tesla_seeds.specs.Weak.{AreSound}
use Rattle.tesla_run_info.specs.seeds.Arguments.{SeedsArguments, IsSeedsForm, files_of_seeds}
use Rattle.tesla_run_info.specs.seeds.Drawn.{AreDrawn, IsNoDraw}

-- the line that tells how many seeds were written
abbrev pub seeds_line : ℕ → List ℕ
seeds_line count = count_line (codes "seeds") count

-- what writing seeds comes to, with the page of SECRET-OUT before and afterwards
abbrev pub WritesSeeds : List Key → Page → Page → OutcomeView → Type 0
WritesSeeds seeds before after (Done lines) = (lines ≡ seeds_line (length seeds)) × HoldsWhere after (λ written. IsSeeds written (length seeds) seeds)
WritesSeeds seeds before after (Failed faults.Write) = HoldsWhere after (IsPrefix (seeds_text seeds)) × HasFailed after
-- memory is wanting only before SECRET-OUT is opened
WritesSeeds seeds before after (Failed faults.NoMemory) = after ≡ before
WritesSeeds seeds before after (Failed faults.Open) = after ≡ before
WritesSeeds seeds before after _ = ⊥

-- no seeds were drawn, and SECRET-OUT wasn't asked for
pub record DrawsNone (count opened : ℕ) (source : Page) (outcome : OutcomeView) : Type 0 where
  pub alone : opened ≤ 1
  pub why : IsRefusedIn source (IsNoDraw count) outcome

-- seeds were drawn, the first bytes of the source where these are told, none of them all zeros and no two the same, and then written
pub record DrawsSeeds (count : ℕ) (source before after : Page) (outcome : OutcomeView) : Type 0 where
  pub seeds : List Key
  pub each : length seeds ≡ count
  pub drawn : HoldsWhere source (λ bytes. AreDrawn count bytes seeds)
  pub sound : AreSound seeds
  pub writes : WritesSeeds seeds before after outcome

-- a run of the command, of which so many files were asked to be opened, with what is told of the source and SECRET-OUT before and after it, and what it came to
abbrev pub DoesSeeds : SeedsArguments → ℕ → List File → List File → OutcomeView → Type 0
DoesSeeds arguments opened (source ∷ out ∷ []) (read ∷ written ∷ []) outcome =
    DrawsNone arguments.count opened source.page outcome ⊎ DrawsSeeds arguments.count source.page out.page written.page outcome
DoesSeeds arguments opened before after outcome = ⊥

-- the command
abbrev pub seeds : Command
seeds = record { Arguments = SeedsArguments; IsForm = IsSeedsForm; files = files_of_seeds; Does = DoesSeeds }
