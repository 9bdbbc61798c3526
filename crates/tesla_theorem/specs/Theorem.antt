-- What a receiver gives is authentic, in the words of RFC 4082.
use Rattle.std.specs.Prelude.{◌≡◌, ℕ, ◌<◌, ◌≤◌, true, List, take, Some, slice_get}
use Rattle.tesla_base.specs.declared.release.Head.{Head}
use Rattle.tesla_fitting.specs.declared.config.Config.{Config}
use Rattle.tesla_frame.specs.declared.row.KeyRow.{KeyRow}
use Rattle.tesla_receiver.specs.Arrivals.{IsSafeOn, IsTakenKey}
use Rattle.tesla_receiver.specs.Entries.{Arrival, Entry}
use Rattle.tesla_receiver.specs.History.{IsLegal, arrivals_in}
use Rattle.tesla_receiver.specs.Packets.{packet_of, verifies}
use Rattle.tesla_receiver.specs.declared.history.Entry.TheVariants.{Taken}
use Rattle.tesla_receiver.specs.declared.packet.Packet.{Packet}
use Rattle.tesla_state.specs.declared.replies.Reply.TheVariants.{Given}

-- A key that was disclosed after the packet came authenticates it on a chain (sections 3.2 and 3.5).
pub record IsProvedOn (cfg : Config) (arrivals : List Arrival) (place : ℕ) (packet : Packet) (chain : ℕ) : Type 0 where
  -- a later arrival disclosed a key, which was carried by its frame, is of the setup, and leads to the commitment and to each key taken before
  pub later : ℕ
  pub behind : place < later
  pub arrival : Arrival
  pub at : slice_get arrivals later ≡ Some arrival
  pub key : KeyRow
  pub disclosed : IsTakenKey cfg (take later arrivals) arrival key
  -- it is of the chain, and of the packet's interval or a later one
  pub of_chain : key.chain.0 ≡ chain
  pub reaches : packet.frame.name.interval ≤ key.index
  -- the packet's MAC verifies under the key that it leads to at the packet's interval
  pub verifies : verifies cfg packet.frame chain key ≡ true

-- What was given is the message of a packet that came while the security condition held, was buffered, and was then authenticated.
pub record IsAuthentic (cfg : Config) (arrivals : List Arrival) (head : Head) (payload : List ℕ) : Type 0 where
  pub place : ℕ
  pub arrival : Arrival
  pub came : slice_get arrivals place ≡ Some arrival
  -- it was buffered
  pub packet : Packet
  pub buffered : packet_of arrival ≡ Some packet
  -- its name and its payload are those that are given
  pub interval_is : head.interval ≡ packet.frame.name.interval
  pub number_is : head.number ≡ packet.frame.name.number
  pub payload_is : payload ≡ packet.frame.payload
  -- the security condition: when it came, the sender couldn't have disclosed the chain's key of its interval, and none that reaches it was taken
  pub safe : IsSafeOn cfg (take place arrivals) arrival packet head.chain
  pub proved : IsProvedOn cfg arrivals place packet head.chain

-- Whatever a legal history gives is authentic, by the arrivals before.
abbrev pub GivenAreAuthentic : Type 0
GivenAreAuthentic =
    (cfg : Config) (h : List Entry) (n releaser : ℕ) (head : Head) (payload : List ℕ) → IsLegal cfg h →
    slice_get h n ≡ Some (Taken releaser (Given head payload)) → IsAuthentic cfg (arrivals_in (take n h)) head payload

-- No two packets of one name are given.
abbrev pub GivenOnce : Type 0
GivenOnce =
    (cfg : Config) (h : List Entry) (m n first_by then_by : ℕ) (first second : Head) (first_payload then_payload : List ℕ) → IsLegal cfg h → m < n →
    slice_get h m ≡ Some (Taken first_by (Given first first_payload)) → slice_get h n ≡ Some (Taken then_by (Given second then_payload)) →
    first.interval ≡ second.interval → first.number ≡ second.number → ⊥
