-- The frames that were sent, as a contract sees them.
use Rattle.std.specs.Prelude.{ℕ, List}

-- their bytes, and for how many there is room in all
pub record FramesState : Type 0 where
  pub sent : List (List ℕ)
  pub reserved : ℕ
