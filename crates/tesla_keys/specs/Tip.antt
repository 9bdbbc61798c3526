-- The newest key of a chain.
use Rattle.std.specs.Prelude.{ℕ}
use Rattle.tesla_base.specs.declared.names.Key.{Key}

-- a key of a chain with its index
pub record Tip : Type 0 where
  pub index : ℕ
  pub key : Key
