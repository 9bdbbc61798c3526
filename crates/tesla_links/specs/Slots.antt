-- What a contract sees of a table of keys.
use Rattle.std.specs.Prelude.{ℕ, ◌==◌, Bool, true, false, List, Option, None, Some}

-- for each slot its key, or None where the slot is vacant; `reserved` is how many entries the tables have room for,
-- together
pub record Slots : Type 0 where
  pub slots : List (Option ℕ)
  pub reserved : ℕ

-- whether a slot is vacant
abbrev pub is_vacant : Option ℕ → Bool
is_vacant None = true
is_vacant (Some key) = false

-- whether a slot has a key
abbrev pub has_key : ℕ → Option ℕ → Bool
has_key wanted None = false
has_key wanted (Some key) = key == wanted
