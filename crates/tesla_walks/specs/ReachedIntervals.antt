-- The intervals that new keys span, and those that they are first to reach. They are the first of their chains there.
use Rattle.std.specs.Prelude.{ℕ, ◌-◌, ◌^◌, ◌<◌, ◌≤◌, ◌≡◌, Bool, true, false, ◌&&◌, List, All, fold, get_or, length, max, min, nat_lt, nat_le, Option, Some, None}
use Rattle.std.specs.List.{list_any}
use Rattle.tesla_frame.specs.declared.row.KeyRow.{KeyRow}
use Rattle.tesla_keys.specs.Tip.{Tip}
use Rattle.tesla_walks.specs.Tips.{tip_at}

-- each new key is of no interval above the highest, and its chain's newest key of none below the lowest
pub record Spans (tips : List Tip) (new : List KeyRow) (low high : ℕ) : Type 0 where
  pub above : All (λ row. low ≤ (tip_at tips row.chain.0).index) new
  pub below : All (λ row. row.index ≤ high) new

abbrev pub lower : List Tip → ℕ → KeyRow → ℕ
lower tips low row = min low (tip_at tips row.chain.0).index

-- the least index of the newest keys of the chains of these new keys
abbrev pub lowest : List Tip → List KeyRow → ℕ
lowest tips new = fold (lower tips) (2 ^ 32 - 1) new

abbrev pub higher : ℕ → KeyRow → ℕ
higher high row = max high row.index

-- the greatest index of these new keys
abbrev pub highest : List KeyRow → ℕ
highest new = fold higher 0 new

-- ---- the intervals that new keys are the first of their chains to reach

-- the index of the newest key of a chain
abbrev pub index_in : List Tip → ℕ → ℕ
index_in tips chain = (tip_at tips chain).index

-- the index that stands at a chain's place
abbrev pub index_at : List ℕ → ℕ → ℕ
index_at indices chain = get_or indices chain 0

-- these are the indices of the newest keys
abbrev pub AreIndices : List Tip → List ℕ → Type 0
AreIndices tips indices = (chain : ℕ) → chain < length tips → index_at indices chain ≡ index_in tips chain

-- where the newest keys have these indices, the new key is the first of its chain to reach the interval
abbrev pub is_first : (ℕ → ℕ) → ℕ → KeyRow → Bool
is_first newest interval row = nat_lt (newest row.chain.0) interval && nat_le interval row.index

-- one of these new keys is
abbrev pub is_reached : (ℕ → ℕ) → List KeyRow → ℕ → Bool
is_reached newest new interval = list_any (is_first newest interval) new

-- the highest interval above one, up to another, that passes a test, if there is one
abbrev pub IsHighest : (ℕ → Bool) → ℕ → ℕ → Option ℕ → Type 0
IsHighest met low high None = (i : ℕ) → low < i → i ≤ high → met i ≡ false
IsHighest met low high (Some n) = (low < n) × (n ≤ high) × (met n ≡ true) × ((i : ℕ) → n < i → i ≤ high → met i ≡ false)
