-- Which keys prove a packet, and what is released (RFC 4082, section 3.5). Also which packets are safe on arrival.
use Rattle.std.specs.Prelude.{ℕ, ◌-◌, Bool, false, ◌&&◌, List, [], ◌∷◌, Option, Some, None, slice_get, nat_lt, nat_le, bytes_eq, find, flat_map}
use Rattle.std.specs.List.{list_any, enumerate_from}
use Rattle.tesla_clock.specs.Safe.{has_chain}
use Rattle.tesla_clock.specs.Safe as clock
use Rattle.tesla_frame.specs.declared.row.KeyRow.{KeyRow}
use Rattle.tesla_frame.specs.Frame.{Frame, Data, Disclosure, DataFrame, TagRow}
use Rattle.tesla_frame.specs.Reading.{frame_of}
use Rattle.tesla_prf.specs.Keys.{walk, tag_of}
use Rattle.tesla_receiver.specs.Entries.{Arrival}
use Rattle.tesla_receiver.specs.declared.packet.Packet.{Packet}
use Rattle.tesla_walks.specs.declared.release.Release.{Release}
use Rattle.tesla_fitting.specs.declared.verdict.Verdict.{Verdict}
use Rattle.tesla_fitting.specs.declared.verdict.Verdict.TheVariants.{Malformed, Foreign, Misfit, Future, BadKey, Late, Repeat, Full, Kept, Keys}
use Rattle.tesla_fitting.specs.declared.config.Config.{Config}
use Rattle.tesla_fitting.specs.Config.{chains, chain_row}
use Rattle.tesla_state.specs.Releases.{each_after, unless_named}
use Rattle.tesla_fitting.specs.Rows.{is_of}
use Rattle.tesla_receiver.specs.Keys.{newest, new_keys}

-- whether the chain is safe for a packet of the interval, by its delay and its newest index
abbrev pub is_safe : Config → List Arrival → ℕ → ℕ → ℕ → Bool
is_safe cfg arrivals bound interval chain = clock.is_safe bound interval (chain_row cfg chain).delay (newest cfg arrivals chain)

-- the packet that an arrival with this verdict and frame brought, if it was kept
abbrev pub packet_in : Verdict → Option Frame → Option Packet
packet_in (Kept set) (Some (Data f)) = Some (record { chains = set; frame = f })
packet_in (Kept set) (Some (Disclosure f)) = None
packet_in (Kept set) None = None
packet_in Malformed frame = None
packet_in (Foreign stream) frame = None
packet_in Misfit frame = None
packet_in (Future bound) frame = None
packet_in (BadKey chain) frame = None
packet_in Late frame = None
packet_in Repeat frame = None
packet_in Full frame = None
packet_in Keys frame = None

-- the packet that an arrival brought, if it was kept
abbrev pub packet_of : Arrival → Option Packet
packet_of arrival = packet_in arrival.verdict (frame_of arrival.bytes)

-- the tag that the packet has for the chain if it is authentic: the one under the key that this key walks to at the packet's interval
abbrev pub tag_by : Config → DataFrame → ℕ → KeyRow → List ℕ
tag_by cfg f chain row =
    tag_of cfg.setup.tag_length (walk row.key (row.index - f.name.interval)) cfg.setup.stream (record { 0 = chain }) f.name f.payload

abbrev pub verifies_row : Config → DataFrame → ℕ → KeyRow → Option TagRow → Bool
verifies_row cfg f chain row None = false
verifies_row cfg f chain row (Some tagged) = bytes_eq tagged.tag (tag_by cfg f chain row)

-- the packet's tag for the chain verifies under the key
abbrev pub verifies : Config → DataFrame → ℕ → KeyRow → Bool
verifies cfg f chain row = verifies_row cfg f chain row (slice_get f.rows chain)

-- the key is of the chain, reaches the packet's interval, and verifies its tag
abbrev pub is_proof : Config → DataFrame → ℕ → KeyRow → Bool
is_proof cfg f chain row = is_of chain row && nat_le f.name.interval row.index && verifies cfg f chain row

-- on this chain, which was safe, one of these new keys is the first to reach the packet's interval, and verifies its tag
abbrev pub proves : Config → List Arrival → List KeyRow → Packet → ℕ → Bool
proves cfg before new packet chain =
    has_chain packet.chains chain && nat_lt (newest cfg before chain) packet.frame.name.interval
    && list_any (is_proof cfg packet.frame chain) new

abbrev pub release_on : ℕ → DataFrame → Option ℕ → List Release
release_on order f None = []
release_on order f (Some chain) = record { place = order; name = f.name; chain = record { 0 = chain } } ∷ []

-- the release of a packet by new keys, told the least chain that proves it
abbrev pub release_of : Config → List Arrival → List KeyRow → ℕ → Option Packet → List Release
release_of cfg before new order None = []
release_of cfg before new order (Some packet) =
    release_on order packet.frame (find (proves cfg before new packet) (chains cfg))

-- the packets before that these new keys prove, in order of arrival
abbrev pub proved_by : Config → List Arrival → List KeyRow → List Release
proved_by cfg before new =
    flat_map (λ (p : ℕ × Arrival). release_of cfg before new p.0 (packet_of p.1)) (enumerate_from 0 before)

-- the packets that an arrival proves
abbrev pub batch : Config → List Arrival → Arrival → List Release
batch cfg before arrival = proved_by cfg before (new_keys cfg before arrival)

-- all pairs of an arrival and a packet that it proves, by the arrival and then by the packet
unfoldable pub candidates : Config → List Arrival → List Release
candidates cfg arrivals = each_after (batch cfg) [] arrivals

-- the first of each name
abbrev pub first_of_each_name : List Release → List Release
first_of_each_name releases = each_after unless_named [] releases

-- what is released, in order
unfoldable pub released : Config → List Arrival → List Release
released cfg arrivals = first_of_each_name (candidates cfg arrivals)
