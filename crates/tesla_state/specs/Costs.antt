-- How many evaluations of HMAC an arrival may take, by what a receiver keeps.
use Rattle.std.specs.Prelude.{ℕ, ◌+◌, ◌-◌, ◌*◌, Bool, not, ◌&&◌, ◌||◌, List, Option, Some, None, nat_lt, nat_le, ◌==◌, if◌then◌else◌, count_by}
use Rattle.std.specs.List.{list_any, sum_by}
use Rattle.tesla_clock.specs.Safe.{has_chain}
use Rattle.tesla_frame.specs.declared.row.KeyRow.{KeyRow}
use Rattle.tesla_frame.specs.Frame.{Frame}
use Rattle.tesla_frame.specs.Reading.{frame_of}
use Rattle.tesla_keys.specs.Tip.{Tip}
use Rattle.tesla_fitting.specs.declared.config.Config.{Config}
use Rattle.tesla_fitting.specs.Config.{chains}
use Rattle.tesla_fitting.specs.Fitting.{stream_of, is_misfit, is_future}
use Rattle.tesla_fitting.specs.Rows.{is_of}
use Rattle.tesla_walks.specs.Holding.{Holding}
use Rattle.tesla_state.specs.State.{State}
use Rattle.tesla_walks.specs.Tips.{tip_at}
use Rattle.tesla_state.specs.Steps.{new_rows, bound_at}

-- the frame's keys aren't looked at: it is of another stream, doesn't fit the setup, or the sender can't have come so far
abbrev pub is_unread : Config → Option ℕ → Frame → Bool
is_unread cfg bound frame = not ((stream_of frame).0 == cfg.setup.stream.0) || is_misfit cfg frame || is_future cfg bound frame

-- one of these keys is of the chain and reaches the interval
abbrev pub has_reaching : List KeyRow → ℕ → ℕ → Bool
has_reaching rows interval chain = list_any (λ row. is_of chain row && nat_le interval row.index) rows

abbrev pub gaps_by : State → Frame → ℕ
gaps_by s frame = sum_by (λ row. row.index - (tip_at s.tips row.chain.0).index) (new_rows s frame)

abbrev pub is_reached_by : List Tip → List KeyRow → Holding → ℕ → Bool
is_reached_by tips new item chain = has_chain item.chains chain && nat_lt (tip_at tips chain).index item.name.interval && has_reaching new item.name.interval chain

-- on how many chains new keys reach a held packet, if it isn't released
abbrev pub reached_by : State → List KeyRow → Holding → ℕ
reached_by s new item = if item.released then 0 else count_by (is_reached_by s.tips new item) (chains s.config)

abbrev pub pairs_by : State → Frame → ℕ
pairs_by s frame = sum_by (reached_by s (new_rows s frame)) s.held

abbrev pub gaps_on : State → Option Frame → ℕ
gaps_on s None = 0
gaps_on s (Some frame) = gaps_by s frame

-- the most evaluations that the offers of an arrival's keys may take, of which the first bad one is the last
unfoldable pub offers_by : State → List ℕ → ℕ
offers_by s bytes = gaps_on s (frame_of bytes)

abbrev pub most_on : State → Option ℕ → Option Frame → ℕ
most_on s bound None = 0
most_on s bound (Some frame) = if is_unread s.config bound frame then 0 else 2 * gaps_by s frame + 2 * pairs_by s frame

-- the most evaluations that an arrival may take
unfoldable pub most_by : State → ℕ → List ℕ → ℕ
most_by s reading bytes = most_on s (bound_at s reading) (frame_of bytes)
