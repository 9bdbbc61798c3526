-- How many packets are held that weren't given.
use Rattle.std.specs.Prelude.{ℕ, Bool, false, not, ◌&&◌, List, take, Option, Some, None, count_by}
use Rattle.std.specs.List.{enumerate_from, list_any}
use Rattle.tesla_fitting.specs.declared.config.Config.{Config}
use Rattle.tesla_receiver.specs.Entries.{Arrival, Entry}
use Rattle.tesla_receiver.specs.Held.{is_gone}
use Rattle.tesla_receiver.specs.History.{arrivals_in, given_in}
use Rattle.tesla_receiver.specs.Packets.{packet_of, released}
use Rattle.tesla_receiver.specs.declared.packet.Packet.{Packet}
use Rattle.tesla_state.specs.Releases.{is_at}

-- a packet was kept, isn't gone, and wasn't given, when so many were
abbrev pub is_undelivered : Config → List Arrival → ℕ → ℕ → Option Packet → Bool
is_undelivered cfg arrivals given order None = false
is_undelivered cfg arrivals given order (Some packet) =
    not (is_gone cfg arrivals given order packet) && not (list_any (is_at order) (take given (released cfg arrivals)))

-- how many there are
unfoldable pub undelivered_of : Config → List Arrival → ℕ → ℕ
undelivered_of cfg arrivals given = count_by (λ (p : ℕ × Arrival). is_undelivered cfg arrivals given p.0 (packet_of p.1)) (enumerate_from 0 arrivals)

abbrev pub undelivered_in : Config → List Entry → ℕ
undelivered_in cfg history = undelivered_of cfg (arrivals_in history) (given_in history)
