-- What is true of each sender.
use Rattle.std.specs.Prelude.{◌≡◌, ℕ, ◌≤◌, List, length, map}
use Rattle.std.specs.List.{All}
use Rattle.tesla_base.specs.declared.names.Key.{Key}
use Rattle.tesla_commit.specs.Parts.{Parts}
use Rattle.tesla_sender.specs.Made.{Chain, Stream, chains_of}
use Rattle.tesla_sender.specs.Chains.{HasMade, Progress, chain_in}

abbrev pub seed_of : Chain → Key
seed_of chain = chain.seed

-- the stream of a setup and of chains that have their seeds
abbrev pub stream_of : Parts → List Progress → Stream
stream_of setup chains = record { setup = setup; seeds = map seed_of (map chain_in chains) }

-- the chains are those of the setup, with the keys up to that of the interval of the last accepted call, or of the next one
pub record IsSender (setup : Parts) (chains : List Progress) (latest used : ℕ) : Type 0 where
  pub same : map chain_in chains ≡ chains_of (stream_of setup chains)
  pub count : length chains ≡ length setup.rows
  pub reached : All (HasMade latest) chains
  pub few : used ≤ 65536
