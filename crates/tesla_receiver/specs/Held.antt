-- Which packets have a place, and how many.
use Rattle.std.specs.Prelude.{◌≤◌, ℕ, Bool, true, false, not, ◌&&◌, ◌||◌, List, take, Option, Some, None, nat_le, ◌==◌, count_by}
use Rattle.std.specs.List.{list_any, list_all, enumerate_from}
use Rattle.tesla_clock.specs.Safe.{has_chain}
use Rattle.tesla_receiver.specs.Entries.{Arrival}
use Rattle.tesla_fitting.specs.declared.config.Config.{Config}
use Rattle.tesla_fitting.specs.Config.{chains}
use Rattle.tesla_receiver.specs.Keys.{newest}
use Rattle.tesla_receiver.specs.declared.packet.Packet.{Packet}
use Rattle.tesla_receiver.specs.Packets.{packet_of, candidates, released}
use Rattle.tesla_state.specs.Releases.{is_at}

-- a key of the chain that reaches the interval was taken
abbrev pub has_passed : Config → List Arrival → ℕ → ℕ → Bool
has_passed cfg arrivals interval chain = nat_le interval (newest cfg arrivals chain)

-- the chain can't prove the packet any more: it wasn't safe, or it has passed the packet
abbrev pub is_past : Config → List Arrival → Packet → ℕ → Bool
is_past cfg arrivals packet chain = not (has_chain packet.chains chain) || has_passed cfg arrivals packet.frame.name.interval chain

-- the packet was proved, or no chain can prove it any more
abbrev pub is_settled : Config → List Arrival → ℕ → Packet → Bool
is_settled cfg arrivals order packet =
    list_any (is_at order) (candidates cfg arrivals) || list_all (is_past cfg arrivals packet) (chains cfg)

-- the packet is settled and isn't released, or it was given and every chain has passed it
abbrev pub is_gone : Config → List Arrival → ℕ → ℕ → Packet → Bool
is_gone cfg arrivals given order packet =
    is_settled cfg arrivals order packet && not (list_any (is_at order) (released cfg arrivals))
    || list_any (is_at order) (take given (released cfg arrivals))
    && list_all (has_passed cfg arrivals packet.frame.name.interval) (chains cfg)

-- any interval, or the one that is told
abbrev pub is_asked : Option ℕ → ℕ → Bool
is_asked None interval = true
is_asked (Some asked) interval = interval == asked

-- the packet is of the interval, if one is told, and isn't gone
abbrev pub has_slot : Config → List Arrival → ℕ → Option ℕ → ℕ → Option Packet → Bool
has_slot cfg arrivals given asked order None = false
has_slot cfg arrivals given asked order (Some packet) =
    is_asked asked packet.frame.name.interval && not (is_gone cfg arrivals given order packet)

-- how many kept packets aren't gone: of one interval, or of all
unfoldable pub held_of : Config → List Arrival → ℕ → Option ℕ → ℕ
held_of cfg arrivals given asked =
    count_by (λ (p : ℕ × Arrival). has_slot cfg arrivals given asked p.0 (packet_of p.1)) (enumerate_from 0 arrivals)

-- no more packets are held than the capacity, which is at most 65,536
pub record HeldFits (config : Config) (arrivals : List Arrival) (given : ℕ) : Type 0 where
  pub few : config.capacity ≤ 65536
  pub held : held_of config arrivals given None ≤ config.capacity
