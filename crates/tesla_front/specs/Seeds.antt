-- The seeds under a name, or why there are none.
use Rattle.std.specs.Prelude.{◌≡◌, ◌⊎◌, ℕ, Ok, Err, List, codes}
use Rattle.tesla_base.specs.declared.names.Key.{Key}
use Rattle.tesla_seeds.specs.Judged.{seeds_judged}
use Rattle.tesla_seeds.specs.Names.{seeds_kind_name}
use Rattle.tesla_seeds.specs.declared.refusal.SeedsKind.{SeedsKind}
use Rattle.tesla_desk.specs.Outside.{Page}
use Rattle.tesla_front.specs.OutcomeView.{OutcomeView, Refused, Failed}
use Rattle.tesla_front.specs.Files.{HoldsWhere, IsRefusedIn}
use Rattle.tesla_front.specs.Refusal.{refused_line}
use Rattle.tesla_front.specs.declared.fault.Fault.TheVariants.{NoMemory}

-- the text spells these seeds, which are so many
abbrev pub IsSeedsText : ℕ → List ℕ → List Key → Type 0
IsSeedsText count text seeds = seeds_judged count text ≡ Ok seeds

-- what a refused line of seeds comes to
abbrev pub seeds_refused : ℕ × SeedsKind → OutcomeView
seeds_refused why = Refused 3 (refused_line (codes "seeds") why.0 (seeds_kind_name why.1))

-- why a text gives no seeds: its first refused line, or there was no memory
abbrev pub IsNoSeedsText : ℕ → List ℕ → OutcomeView → Type 0
IsNoSeedsText count text outcome = ((why : ℕ × SeedsKind) × (seeds_judged count text ≡ Err why) × (outcome ≡ seeds_refused why)) ⊎ (outcome ≡ Failed NoMemory)

-- there is a file, and its text spells these seeds where it is told
abbrev pub IsSeedsIn : ℕ → Page → List Key → Type 0
IsSeedsIn count page seeds = HoldsWhere page (λ text. IsSeedsText count text seeds)

-- why a file gives no seeds
abbrev pub IsNoSeeds : ℕ → Page → OutcomeView → Type 0
IsNoSeeds count page outcome = IsRefusedIn page (IsNoSeedsText count) outcome
