-- A packet that a receiver holds.
use Rattle.std.specs.Prelude.{ℕ, Bool, List}
use Rattle.tesla_base.specs.declared.names.Name.{Name}

-- a packet that was kept and isn't gone: its place among the arrivals, what it brought, and whether it was released and taken
pub record Holding : Type 0 where
  pub order : ℕ
  pub name : Name
  pub chains : ℕ
  pub payload : List ℕ
  pub tags : List (List ℕ)
  pub released : Bool
  pub taken : Bool
