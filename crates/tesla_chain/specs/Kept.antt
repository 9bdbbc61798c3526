-- What is true of each traversal.
use Rattle.std.specs.Prelude.{◌≡◌, ℕ, ◌+◌, ◌-◌, ◌^◌, ◌<◌, ◌≤◌, List, length}
use Rattle.tesla_base.specs.declared.names.Key.{Key}
use Rattle.tesla_prf.specs.Keys.{walk}
use Rattle.tesla_chain.specs.Cost.{bits}
use Rattle.tesla_chain.specs.declared.level.Level.{Level}
use Rattle.tesla_chain.specs.Levels.{Stand}

-- there are levels enough for the chain, and no more than its length has binary digits; they stand as long as a key is
-- left to give, where the marks of used up levels are free, which are those above the seed
pub record IsKept (last given : ℕ) (seed commitment : Key) (levels : List Level) : Type 0 where
  pub most : last ≤ 2 ^ 20
  pub within : given ≤ last
  pub lowest : commitment ≡ walk seed last
  pub enough : last ≤ 2 ^ length levels
  pub few : length levels ≤ bits last
  pub short : length levels ≤ 20
  pub stand : given < last → Stand seed 0 (last - (given + 1)) last levels
