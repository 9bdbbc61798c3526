-- What a receiver keeps of a history. These are the newest keys, the packets that have a place, those that wait to be
-- given, which ingests have ended, and the counts.
use Rattle.std.specs.Prelude.{◌≡◌, ℕ, List, [], ◌∷◌, length, map, take, drop, Option, Some, None, flat_map, if◌then◌else◌}
use Rattle.std.specs.List.{list_any, enumerate_from, range_with_len}
use Rattle.tesla_fitting.specs.declared.config.Config.{Config}
use Rattle.tesla_receiver.specs.Entries.{Arrival, Entry}
use Rattle.tesla_receiver.specs.declared.packet.Packet.{Packet}
use Rattle.tesla_fitting.specs.Config.{chains}
use Rattle.tesla_state.specs.Releases.{is_at}
use Rattle.tesla_receiver.specs.Held.{is_gone}
use Rattle.tesla_receiver.specs.History.{IsLegal, arrivals_in, given_in, has_end}
use Rattle.tesla_receiver.specs.Packets.{packet_of, released}
use Rattle.tesla_receiver.specs.Report.{report_of}
use Rattle.tesla_receiver.specs.Tips.{tip_of}
use Rattle.tesla_fitting.specs.Rows.{tag_in}
use Rattle.tesla_walks.specs.Holding.{Holding}
use Rattle.tesla_state.specs.State.{State}

abbrev pub holding_of : Config → List Arrival → ℕ → ℕ → Packet → Holding
holding_of cfg arrivals given order packet = record {
  order = order;
  name = packet.frame.name;
  chains = packet.chains;
  payload = packet.frame.payload;
  tags = map tag_in packet.frame.rows;
  released = list_any (is_at order) (released cfg arrivals);
  taken = list_any (is_at order) (take given (released cfg arrivals));
}

abbrev pub held_at : Config → List Arrival → ℕ → ℕ → Option Packet → List Holding
held_at cfg arrivals given order None = []
held_at cfg arrivals given order (Some packet) =
    if is_gone cfg arrivals given order packet then [] else holding_of cfg arrivals given order packet ∷ []

-- the kept packets that aren't gone, in order of arrival, when so many packets were given
unfoldable pub holdings : Config → List Arrival → ℕ → List Holding
holdings cfg arrivals given = flat_map (λ (p : ℕ × Arrival). held_at cfg arrivals given p.0 (packet_of p.1)) (enumerate_from 0 arrivals)

-- a receiver stands for a history: the history is legal, and what the receiver keeps is what the definitions name
pub record Stands (state : State) (history : List Entry) : Type 0 where
  pub legal : IsLegal state.config history
  pub tips : state.tips ≡ map (tip_of state.config (arrivals_in history)) (chains state.config)
  pub held : state.held ≡ holdings state.config (arrivals_in history) (given_in history)
  pub waiting : state.waiting ≡ drop (given_in history) (released state.config (arrivals_in history))
  pub ended : state.ended ≡ map (has_end history) (range_with_len 0 state.config.ingests)
  pub counts : state.counts ≡ report_of history
  pub calls : state.calls ≡ length history
