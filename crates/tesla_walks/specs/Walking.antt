-- Walks back from new keys, and what they cost in evaluations of HMAC.
use Rattle.std.specs.Prelude.{◌≡◌, ◌≤◌, ℕ, ◌-◌, Bool, false, ◌&&◌, List, map, min, Option, IfSome, nat_lt, nat_le, count_by, if◌then◌else◌}
use Rattle.std.specs.List.{list_any, sum_by}
use Rattle.tesla_base.specs.declared.names.Key.{Key}
use Rattle.tesla_clock.specs.Safe.{has_chain}
use Rattle.tesla_frame.specs.declared.row.KeyRow.{KeyRow}
use Rattle.tesla_keys.specs.Tip.{Tip}
use Rattle.tesla_prf.specs.Keys.{walk, mac_of}
use Rattle.tesla_fitting.specs.declared.config.Config.{Config}
use Rattle.tesla_fitting.specs.Config.{chains}
use Rattle.tesla_fitting.specs.Rows.{is_of}
use Rattle.tesla_walks.specs.Holding.{Holding}
use Rattle.tesla_walks.specs.Tips.{tip_at}

-- a walk from a new key down its chain: the interval whose key it has reached, and whether that interval's MAC key is made
pub record Walking : Type 0 where
  pub row : KeyRow
  pub reached : ℕ
  pub made : Bool

-- a walk that stands at its key
abbrev pub fresh : KeyRow → Walking
fresh row = record { row = row; reached = row.index; made = false }

abbrev pub row_of : Walking → KeyRow
row_of walking = walking.row

-- the new keys of walks
abbrev pub rows_of : List Walking → List KeyRow
rows_of walks = map row_of walks

-- what a walk holds: the key of the interval that it has reached, and the MAC key of that interval where it is made
pub record HasReached (row : KeyRow) (reached : ℕ) (key : Key) (mac : Option Key) : Type 0 where
  pub below : reached ≤ row.index
  pub walked : key ≡ walk row.key (row.index - reached)
  pub made : IfSome mac (λ m. m ≡ mac_of key)

-- the steps that the MAC key of an interval still takes, once the walk has reached it
abbrev pub unmade : Walking → ℕ → ℕ
unmade walking interval = if walking.made && nat_le walking.reached interval then 0 else 1

-- the walk isn't below the interval, if its key reaches it
abbrev pub IsAbove : ℕ → Walking → Type 0
IsAbove interval walking = min walking.row.index interval ≤ walking.reached

-- how far the walk stands above the newest key of its chain
abbrev pub left_of : List Tip → Walking → ℕ
left_of tips walking = walking.reached - (tip_at tips walking.row.chain.0).index

-- the most steps that the walks still take
abbrev pub left : List Tip → List Walking → ℕ
left tips walks = sum_by (left_of tips) walks

-- the key is of the chain and reaches the interval
abbrev pub reaches : ℕ → ℕ → KeyRow → Bool
reaches chain interval row = is_of chain row && nat_le interval row.index

-- the chain, which was safe, is one on which one of these new keys is the first to reach the packet's interval
abbrev pub is_tried : List Tip → List KeyRow → Holding → ℕ → Bool
is_tried tips new item chain =
    has_chain item.chains chain && nat_lt (tip_at tips chain).index item.name.interval && list_any (reaches chain item.name.interval) new

-- on how many chains the packet is tried
abbrev pub tried : Config → List Tip → List KeyRow → Holding → ℕ
tried cfg tips new item = count_by (is_tried tips new item) (chains cfg)

-- the same, where a packet that is released isn't tried
abbrev pub tries : Config → List Tip → List KeyRow → Holding → ℕ
tries cfg tips new item = if item.released then 0 else tried cfg tips new item

-- the pairs of a packet and a chain on which it is tried
abbrev pub pairs : Config → List Tip → List KeyRow → List Holding → ℕ
pairs cfg tips new held = sum_by (tries cfg tips new) held
