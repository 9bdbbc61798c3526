-- Keys that are offered to the newest keys of their chains.
use Rattle.std.specs.Prelude.{◌≡◌, ℕ, ◌<◌, ◌-◌, List, All, filter, flat_map, length, take}
use Rattle.std.specs.List.{enumerate_from, sum_by}
use Rattle.tesla_frame.specs.declared.row.KeyRow.{KeyRow}
use Rattle.tesla_frame.specs.Frame.{ChainsRise, Frame, Data, Disclosure, TagRow}
use Rattle.tesla_keys.specs.Offers.{offer_of, IsGood}
use Rattle.tesla_keys.specs.Tip.{Tip}
use Rattle.tesla_fitting.specs.declared.config.Config.{Config}
use Rattle.tesla_fitting.specs.Rows.{carried}
use Rattle.tesla_walks.specs.Tips.{is_newer, tip_at}
use Rattle.tesla_walks.specs.Walking.{Walking, IsAbove, left, rows_of}

-- the key's chain is one of so many
abbrev pub IsOfChains : ℕ → KeyRow → Type 0
IsOfChains count row = row.chain.0 < count

-- the keys in the first rows of a frame
abbrev pub first_keys : Config → Frame → ℕ → List KeyRow
first_keys cfg (Data f) n = flat_map (λ (p : ℕ × TagRow). carried cfg f.name.interval p.0 p.1.key) (enumerate_from 0 (take n f.rows))
first_keys cfg (Disclosure f) n = take n f.rows

-- those of them that are newer than the newest of their chains
abbrev pub newer_keys : Config → List Tip → Frame → ℕ → List KeyRow
newer_keys cfg tips frame n = filter (is_newer tips) (first_keys cfg frame n)

-- each key may be taken
abbrev pub AreGood : List Tip → List KeyRow → Type 0
AreGood tips rows = All (λ row. IsGood (offer_of (tip_at tips row.chain.0) row.index row.key)) rows

-- how far a key is above the newest of its chain
abbrev pub gap_of : List Tip → KeyRow → ℕ
gap_of tips row = row.index - (tip_at tips row.chain.0).index

-- how far the newer of these keys are above the newest of their chains, together
abbrev pub gaps : List Tip → List KeyRow → ℕ
gaps tips rows = sum_by (gap_of tips) rows

-- walks that begin at the newer keys of a frame, before any of them is taken
pub record HaveBegun (tips : List Tip) (rows : List KeyRow) (walks : List Walking) : Type 0 where
  pub new : rows_of walks ≡ filter (is_newer tips) rows
  pub chains : All (IsOfChains (length tips)) (rows_of walks)
  pub rise : ChainsRise (rows_of walks)
  pub good : AreGood tips (rows_of walks)
  pub potential : left tips walks ≡ gaps tips rows
  pub above : (interval : ℕ) → All (IsAbove interval) walks
