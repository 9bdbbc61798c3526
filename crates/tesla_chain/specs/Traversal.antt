-- What a contract sees of a traversal.
use Rattle.std.specs.Prelude.{◌≡◌, ℕ, ◌+◌, ◌-◌, ◌*◌, ◌≤◌, Option, Some, None, nat_lt, if◌then◌else◌}
use Rattle.tesla_base.specs.declared.names.Key.{Key}
use Rattle.tesla_prf.specs.Keys.{walk}
use Rattle.tesla_chain.specs.Cost.{W, bits}

-- the seed is the key of index `last`; the keys of index 1 to `given` were given; `kept` is the number of keys that
-- are kept, `left` the most steps that the other keys still take, and `reserved` the number of entries that its table
-- has room for
pub record Traversing : Type 0 where
  pub seed : Key
  pub last : ℕ
  pub given : ℕ
  pub kept : ℕ
  pub left : ℕ
  pub reserved : ℕ

-- the next key; there is none after the seed
abbrev pub next_given : Traversing → Option Key
next_given traversal = if nat_lt traversal.given traversal.last then Some (walk traversal.seed (traversal.last - (traversal.given + 1))) else None

-- a traversal that was just opened
pub record IsOpened (key : Key) (highest : ℕ) (traversal : Traversing) : Type 0 where
  pub seed : traversal.seed ≡ key
  pub last : traversal.last ≡ highest
  pub given : traversal.given ≡ 0
  pub kept : traversal.kept ≤ 2 * bits highest + 2
  pub left : highest + traversal.left ≤ W highest

-- what becomes of a traversal that had keys to give
pub record HasGiven (before after : Traversing) : Type 0 where
  pub seed : after.seed ≡ before.seed
  pub last : after.last ≡ before.last
  pub given : after.given ≡ before.given + 1
  pub within : after.given ≤ after.last
  pub kept : after.kept ≤ 2 * bits after.last + 2

-- what becomes of a traversal that has gone on to the key of this index
pub record HasComeTo (index : ℕ) (before after : Traversing) : Type 0 where
  pub seed : after.seed ≡ before.seed
  pub last : after.last ≡ before.last
  pub given : after.given ≡ index
  pub within : after.given ≤ after.last
  pub kept : after.kept ≤ 2 * bits after.last + 2
