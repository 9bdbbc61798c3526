-- The sender of a setup and seeds that stand in two files.
use Rattle.std.specs.Prelude.{◌≡◌, ◌⊎◌, ◌+◌, ◌≤◌, ℕ, Option, Some, None, List, [], ◌∷◌, length, codes}
use Rattle.std.specs.Option.{option_map}
use Rattle.tesla_commit.specs.Parts.{Parts}
use Rattle.tesla_convert.specs.Meaning.{StopsAtSetup}
use Rattle.tesla_desk.specs.Faults.{HasCauses}
use Rattle.tesla_desk.specs.Outside.{OfSource, Page, Told}
use Rattle.tesla_front.specs.OutcomeView.{OutcomeView, Refused, Failed}
use Rattle.tesla_front.specs.Openings.{File, Opens, file_told}
use Rattle.tesla_front.specs.Refusal.{refused_line}
use Rattle.tesla_front.specs.Seeds.{IsSeedsIn, IsNoSeeds}
use Rattle.tesla_front.specs.Setup.{IsSetupIn}
use Rattle.tesla_front.specs.declared.fault.Fault.TheVariants as faults
use Rattle.tesla_sender.specs.Made.{Chain, Stream, chains_of}
use Rattle.tesla_run_send.specs.declared.opening.SeededSetup.{SeededSetup}
use Rattle.tesla_sender.specs.Opening.{first_wrong}

-- the stream of a setup and its seeds that were read
abbrev pub stream_in : SeededSetup → Stream
stream_in seeded = record { setup = seeded.setup; seeds = seeded.seeds }

-- ---- the seeds

-- the line of the first seed that doesn't give the key of the setup: that of chain 0 is the second line
abbrev pub wrong_line : Stream → Option ℕ
wrong_line stream = option_map (λ (chain : Chain). chain.number + 2) (first_wrong (chains_of stream))

-- what a wrong seed in this line comes to
abbrev pub seed_refused : ℕ → OutcomeView
seed_refused line = Refused 3 (refused_line (codes "seeds") line (codes "WrongSeed"))

-- why no sender of the stream is opened: a seed is wrong, or there was no memory
abbrev pub IsNoSender : Stream → OutcomeView → Type 0
IsNoSender stream outcome = ((line : ℕ) × (wrong_line stream ≡ Some line) × (outcome ≡ seed_refused line)) ⊎ (outcome ≡ Failed faults.NoMemory)

-- ---- the files

-- a setup and its seeds, as they are found
pub record IsFoundIn (setup secret : Page) (stream : Stream) : Type 0 where
  pub setup_found : IsSetupIn setup stream.setup
  pub count : length stream.seeds ≡ length stream.setup.rows
  pub seeds_found : IsSeedsIn (length stream.setup.rows) secret stream.seeds

-- under the setup there are no seeds, and no file behind them was asked for
pub record StopsAtSeeds (setup secret : Page) (opened : ℕ) (outcome : OutcomeView) : Type 0 where
  pub parts : Parts
  pub found : IsSetupIn setup parts
  pub few : opened ≤ 2
  pub why : IsNoSeeds (length parts.rows) secret outcome

-- with the seeds that are found no sender is opened, and no file behind them was asked for
pub record StopsAtSender (setup secret : Page) (opened : ℕ) (outcome : OutcomeView) : Type 0 where
  pub stream : Stream
  pub found : IsFoundIn setup secret stream
  pub few : opened ≤ 2
  pub why : IsNoSender stream outcome

-- why there are no seeds: there is no setup, or there are no seeds under it
abbrev pub LacksSeeds : File → File → ℕ → OutcomeView → Type 0
LacksSeeds setup secret opened outcome = StopsAtSetup setup opened outcome ⊎ StopsAtSeeds setup.page secret.page opened outcome

-- why there is no sender: there is no setup, there are no seeds under it, or no sender is opened with them
abbrev pub LacksSender : File → File → ℕ → OutcomeView → Type 0
LacksSender setup secret opened outcome = StopsAtSetup setup opened outcome ⊎ StopsAtSeeds setup.page secret.page opened outcome ⊎ StopsAtSender setup.page secret.page opened outcome

-- the stream of a setup and its seeds, which are right
pub record IsStreamIn (setup secret : File) (stream : Stream) : Type 0 where
  pub found : IsFoundIn setup.page secret.page stream
  pub right : wrong_line stream ≡ None

-- ---- the files of both

-- the setup was opened and read, then the seeds, and they are those of the stream; all else is as before
pub record ReadsStream (setup secret : List ℕ) (stream : Stream) (old new : Told) : Type 0 where
  pub opens : Opens (OfSource setup ∷ OfSource secret ∷ []) 2 old new
  pub pages : (name : List ℕ) → new.page name ≡ old.page name
  pub live : new.live ≡ old.live
  pub counts : new.faults ≡ old.faults
  pub is : IsFoundIn (old.page setup) (old.page secret) stream

-- there are no seeds, so many of both were opened, and each failure raised its count
pub record ReadsNoStream (setup secret : List ℕ) (outcome : OutcomeView) (old new : Told) : Type 0 where
  pub opened : ℕ
  pub few : opened ≤ 2
  pub opens : Opens (OfSource setup ∷ OfSource secret ∷ []) opened old new
  pub live : new.live ≡ old.live
  pub why : LacksSeeds (file_told old setup) (file_told old secret) opened outcome
  pub causes : HasCauses old.faults new.faults (outcome ≡ Failed faults.Read) (outcome ≡ Failed faults.Write) (outcome ≡ Failed faults.Open)

-- ---- the opening

-- the setup was opened and read, then the seeds, and they are those of the stream; all else is as before
pub record OpensSender (setup secret : List ℕ) (stream : Stream) (old new : Told) : Type 0 where
  pub opens : Opens (OfSource setup ∷ OfSource secret ∷ []) 2 old new
  pub pages : (name : List ℕ) → new.page name ≡ old.page name
  pub live : new.live ≡ old.live
  pub counts : new.faults ≡ old.faults
  pub is : IsStreamIn (file_told old setup) (file_told old secret) stream

-- there is no sender, so many of both were opened, and each failure raised its count
pub record OpensNoSender (setup secret : List ℕ) (outcome : OutcomeView) (old new : Told) : Type 0 where
  pub opened : ℕ
  pub few : opened ≤ 2
  pub opens : Opens (OfSource setup ∷ OfSource secret ∷ []) opened old new
  pub live : new.live ≡ old.live
  pub why : LacksSender (file_told old setup) (file_told old secret) opened outcome
  pub causes : HasCauses old.faults new.faults (outcome ≡ Failed faults.Read) (outcome ≡ Failed faults.Write) (outcome ≡ Failed faults.Open)
