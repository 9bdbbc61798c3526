-- The keys and the tags that a frame carries (RFC 4082, section 3.5).
use Rattle.std.specs.Prelude.{ℕ, ◌-◌, Bool, List, [], ◌∷◌, length, Option, Some, None, nat_lt, ◌==◌, if◌then◌else◌, bytes_eq, flat_map}
use Rattle.std.specs.List.{enumerate_from}
use Rattle.tesla_base.specs.declared.names.Key.{Key}
use Rattle.tesla_frame.specs.declared.row.KeyRow.{KeyRow}
use Rattle.tesla_frame.specs.Frame.{Frame, Data, Disclosure, TagRow}
use Rattle.tesla_prf.specs.Keys.{walk}
use Rattle.tesla_fitting.specs.declared.config.Config.{Config}
use Rattle.tesla_fitting.specs.Config.{chain_row}

-- the key of a chain in a data frame of the interval: it is of the interval that is the delay before, if there is one
abbrev pub carried : Config → ℕ → ℕ → Option Key → List KeyRow
carried cfg interval chain None = []
carried cfg interval chain (Some key) =
    if nat_lt interval (chain_row cfg chain).delay then []
    else record { chain = record { 0 = chain }; index = interval - (chain_row cfg chain).delay; key = key } ∷ []

-- the keys that a frame carries, each with its chain and index
abbrev pub keys_of : Config → Frame → List KeyRow
keys_of cfg (Data f) = flat_map (λ (p : ℕ × TagRow). carried cfg f.name.interval p.0 p.1.key) (enumerate_from 0 f.rows)
keys_of cfg (Disclosure f) = f.rows

-- how many rows a frame has
abbrev pub row_count : Frame → ℕ
row_count (Data f) = length f.rows
row_count (Disclosure f) = length f.rows

-- the key's index is above this one
abbrev pub is_past : ℕ → KeyRow → Bool
is_past newest row = nat_lt newest row.index

abbrev pub is_of : ℕ → KeyRow → Bool
is_of chain row = row.chain.0 == chain

-- the key walks to the other, which is of the same chain and not above it
abbrev pub leads_to : KeyRow → ℕ → Key → Bool
leads_to row index key = bytes_eq (walk row.key (row.index - index)).0 key.0

abbrev pub tag_in : TagRow → List ℕ
tag_in row = row.tag
