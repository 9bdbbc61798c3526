-- How many evaluations of HMAC an arrival may take, by the history.
use Rattle.std.specs.Prelude.{ℕ, ◌+◌, ◌-◌, ◌*◌, Bool, ◌&&◌, List, Option, Some, None, nat_lt, if◌then◌else◌, filter, count_by}
use Rattle.std.specs.List.{enumerate_from, sum_by}
use Rattle.tesla_clock.specs.Safe.{has_chain}
use Rattle.tesla_clock.specs.Schedule.{bound_of}
use Rattle.tesla_frame.specs.declared.row.KeyRow.{KeyRow}
use Rattle.tesla_frame.specs.Frame.{Frame}
use Rattle.tesla_frame.specs.Reading.{frame_of}
use Rattle.tesla_fitting.specs.declared.config.Config.{Config}
use Rattle.tesla_receiver.specs.Entries.{Arrival}
use Rattle.tesla_receiver.specs.declared.packet.Packet.{Packet}
use Rattle.tesla_fitting.specs.Config.{chains}
use Rattle.tesla_receiver.specs.Held.{is_settled}
use Rattle.tesla_fitting.specs.Rows.{keys_of}
use Rattle.tesla_receiver.specs.Keys.{newest}
use Rattle.tesla_receiver.specs.Packets.{packet_of}
use Rattle.tesla_state.specs.Costs.{is_unread, has_reaching}

-- the keys of a frame that are newer than those taken before
abbrev pub newer_rows : Config → List Arrival → Frame → List KeyRow
newer_rows cfg arrivals frame = filter (λ row. nat_lt (newest cfg arrivals row.chain.0) row.index) (keys_of cfg frame)

-- how far the new keys are above the newest before them, together
abbrev pub gaps : Config → List Arrival → Frame → ℕ
gaps cfg arrivals frame = sum_by (λ row. row.index - newest cfg arrivals row.chain.0) (newer_rows cfg arrivals frame)

-- the chain is in the packet's set, and a new key is its first to reach the packet's interval
abbrev pub is_reached : Config → List Arrival → List KeyRow → Packet → ℕ → Bool
is_reached cfg arrivals new packet chain =
    has_chain packet.chains chain && nat_lt (newest cfg arrivals chain) packet.frame.name.interval && has_reaching new packet.frame.name.interval chain

-- on how many chains new keys reach a packet, if it isn't settled
abbrev pub reached_on : Config → List Arrival → List KeyRow → ℕ → Option Packet → ℕ
reached_on cfg arrivals new order None = 0
reached_on cfg arrivals new order (Some packet) =
    if is_settled cfg arrivals order packet then 0 else count_by (is_reached cfg arrivals new packet) (chains cfg)

-- how many pairs there are of a kept packet that isn't settled and a chain on which a new key of the frame reaches it
abbrev pub pairs : Config → List Arrival → Frame → ℕ
pairs cfg arrivals frame = sum_by (λ (p : ℕ × Arrival). reached_on cfg arrivals (newer_rows cfg arrivals frame) p.0 (packet_of p.1)) (enumerate_from 0 arrivals)

abbrev pub gaps_of : Config → List Arrival → Option Frame → ℕ
gaps_of cfg arrivals None = 0
gaps_of cfg arrivals (Some frame) = gaps cfg arrivals frame

-- the most evaluations that the offers of an arrival's keys may take, of which the first bad one is the last
unfoldable pub most_offers : Config → List Arrival → List ℕ → ℕ
most_offers cfg arrivals bytes = gaps_of cfg arrivals (frame_of bytes)

abbrev pub most_of : Config → List Arrival → Option ℕ → Option Frame → ℕ
most_of cfg arrivals bound None = 0
most_of cfg arrivals bound (Some frame) = if is_unread cfg bound frame then 0 else 2 * gaps cfg arrivals frame + 2 * pairs cfg arrivals frame

-- the most evaluations that an arrival may take after the earlier ones
unfoldable pub most_evaluations : Config → List Arrival → ℕ → List ℕ → ℕ
most_evaluations cfg arrivals reading bytes = most_of cfg arrivals (bound_of cfg.setup.times cfg.lag reading) (frame_of bytes)
