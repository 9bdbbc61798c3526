-- Which keys are taken, new and good (RFC 4082, section 3.5, key tests).
use Rattle.std.specs.Prelude.{ℕ, Bool, true, false, not, ◌&&◌, ◌||◌, List, [], max, Option, Some, None, nat_lt, if◌then◌else◌, filter, fold, flat_map}
use Rattle.std.specs.List.{list_all}
use Rattle.tesla_frame.specs.declared.row.KeyRow.{KeyRow}
use Rattle.tesla_frame.specs.Frame.{Frame}
use Rattle.tesla_frame.specs.Reading.{frame_of}
use Rattle.tesla_receiver.specs.Entries.{Arrival}
use Rattle.tesla_fitting.specs.declared.verdict.Verdict.{Verdict}
use Rattle.tesla_fitting.specs.declared.verdict.Verdict.TheVariants.{Malformed, Foreign, Misfit, Future, BadKey, Late, Repeat, Full, Kept, Keys}
use Rattle.tesla_fitting.specs.declared.config.Config.{Config}
use Rattle.tesla_fitting.specs.Config.{chain_row}
use Rattle.tesla_fitting.specs.Rows.{keys_of, is_of, leads_to}
use Rattle.tesla_state.specs.Releases.{each_after}

abbrev pub keys_in : Config → Option Frame → List KeyRow
keys_in cfg None = []
keys_in cfg (Some frame) = keys_of cfg frame

-- an arrival takes its keys unless it was refused before them
abbrev pub takes_keys : Verdict → Bool
takes_keys Malformed = false
takes_keys (Foreign stream) = false
takes_keys Misfit = false
takes_keys (Future bound) = false
takes_keys (BadKey chain) = false
takes_keys Late = true
takes_keys Repeat = true
takes_keys Full = true
takes_keys (Kept chains) = true
takes_keys Keys = true

-- the keys that an arrival takes
abbrev pub keys_taken : Config → Arrival → List KeyRow
keys_taken cfg arrival = if takes_keys arrival.verdict then keys_in cfg (frame_of arrival.bytes) else []

-- the greatest of these indexes and of the chain's among the rows
abbrev pub greatest : ℕ → ℕ → List KeyRow → ℕ
greatest chain index rows = fold (λ n row. max n row.index) index (filter (is_of chain) rows)

-- the newest index of a chain: the greatest of the commitment's and of those of the keys taken
unfoldable pub newest : Config → List Arrival → ℕ → ℕ
newest cfg arrivals chain = greatest chain (chain_row cfg chain).index (flat_map (keys_taken cfg) arrivals)

-- the keys that an arrival takes and that are newer than those taken before
abbrev pub new_keys : Config → List Arrival → Arrival → List KeyRow
new_keys cfg before arrival = filter (λ row. nat_lt (newest cfg before row.chain.0) row.index) (keys_taken cfg arrival)

-- all keys that were new when they were taken
unfoldable pub fresh_keys : Config → List Arrival → List KeyRow
fresh_keys cfg arrivals = each_after (new_keys cfg) [] arrivals

-- the key is newer than those taken before, and walks to the commitment's key and to each of its chain that was new
abbrev pub is_good : Config → List Arrival → KeyRow → Bool
is_good cfg arrivals row =
    nat_lt (newest cfg arrivals row.chain.0) row.index
    && leads_to row (chain_row cfg row.chain.0).index (chain_row cfg row.chain.0).key
    && list_all (λ other. not (is_of row.chain.0 other) || leads_to row other.index other.key) (fresh_keys cfg arrivals)
