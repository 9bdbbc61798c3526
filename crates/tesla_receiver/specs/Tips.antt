-- The newest key of a chain.
use Rattle.std.specs.Prelude.{ℕ, List, fold}
use Rattle.tesla_keys.specs.Tip.{Tip}
use Rattle.tesla_fitting.specs.declared.config.Config.{Config}
use Rattle.tesla_receiver.specs.Entries.{Arrival}
use Rattle.tesla_receiver.specs.Keys.{fresh_keys}
use Rattle.tesla_walks.specs.Tips.{first_tip, raised}

-- the newest key of a chain with its index: that of the commitment where none was taken
unfoldable pub tip_of : Config → List Arrival → ℕ → Tip
tip_of cfg arrivals chain = fold (raised chain) (first_tip cfg chain) (fresh_keys cfg arrivals)
