-- The newest keys of the chains. They are those at first, at a chain, and with keys that are taken.
use Rattle.std.specs.Prelude.{ℕ, ◌&&◌, Bool, List, map, not, fold, get_or, replicate, nat_lt, if◌then◌else◌}
use Rattle.std.specs.List.{enumerate_from}
use Rattle.tesla_frame.specs.declared.row.KeyRow.{KeyRow}
use Rattle.tesla_keys.specs.Tip.{Tip}
use Rattle.tesla_fitting.specs.declared.config.Config.{Config}
use Rattle.tesla_fitting.specs.Config.{chain_row}
use Rattle.tesla_fitting.specs.Rows.{is_of, leads_to}

-- the commitment of a chain
abbrev pub first_tip : Config → ℕ → Tip
first_tip cfg chain = record { index = (chain_row cfg chain).index; key = (chain_row cfg chain).key }

-- the newest key with one key more: that key where it is of the chain and above
abbrev pub raised : ℕ → Tip → KeyRow → Tip
raised chain tip row = if is_of chain row && nat_lt tip.index row.index then record { index = row.index; key = row.key } else tip

-- what stands for a chain that there isn't
abbrev pub no_tip : Tip
no_tip = record { index = 0; key = record { 0 = replicate 32 0 } }

abbrev pub tip_at : List Tip → ℕ → Tip
tip_at tips chain = get_or tips chain no_tip

-- the row's key is newer than the newest of its chain
abbrev pub is_newer : List Tip → KeyRow → Bool
is_newer tips row = nat_lt (tip_at tips row.chain.0).index row.index

-- it is newer, and doesn't walk to that
abbrev pub fails : List Tip → KeyRow → Bool
fails tips row = is_newer tips row && not (leads_to row (tip_at tips row.chain.0).index (tip_at tips row.chain.0).key)

-- the newest keys with those of the rows
abbrev pub tips_after : List Tip → List KeyRow → List Tip
tips_after tips rows = map (λ (p : ℕ × Tip). fold (raised p.0) p.1 rows) (enumerate_from 0 tips)
