-- What is so of each arrival of a legal history. A kept packet was safe, a key that was taken was good, and a packet that is proved is released.
use Rattle.std.specs.Prelude.{◌≡◌, ℕ, ◌+◌, ◌<◌, ◌≤◌, true, false, List, [], ◌∷◌, ◌++◌, length, take, Some, slice_get}
use Rattle.std.specs.List.{Contains, list_any}
use Rattle.tesla_clock.specs.Safe.{has_chain}
use Rattle.tesla_clock.specs.Schedule.{bound_of}
use Rattle.tesla_fitting.specs.Config.{chain_row}
use Rattle.tesla_fitting.specs.Fitting.{is_misfit}
use Rattle.tesla_fitting.specs.declared.config.Config.{Config}
use Rattle.tesla_frame.specs.Frame.{Data}
use Rattle.tesla_frame.specs.Reading.{frame_of}
use Rattle.tesla_frame.specs.declared.row.KeyRow.{KeyRow}
use Rattle.tesla_receiver.specs.History.{IsLegal, arrivals_in}
use Rattle.tesla_receiver.specs.Keys.{fresh_keys, is_good, keys_in, new_keys, newest}
use Rattle.tesla_receiver.specs.Packets.{packet_of, proves, released}
use Rattle.tesla_receiver.specs.Entries.{Arrival, Entry}
use Rattle.tesla_receiver.specs.declared.packet.Packet.{Packet}
use Rattle.tesla_state.specs.Releases.{has_name}

-- the arrival brought a packet for which the chain was safe, after those before it
pub record IsSafeOn (cfg : Config) (before : List Arrival) (arrival : Arrival) (packet : Packet) (chain : ℕ) : Type 0 where
  -- its datagram is the packet's frame, which is of the stream and fits the setup
  pub framed : frame_of arrival.bytes ≡ Some (Data packet.frame)
  pub stream : packet.frame.stream.0 ≡ cfg.setup.stream.0
  pub fits : is_misfit cfg (Data packet.frame) ≡ false
  -- the chain is one of the setup
  pub chain_is : chain < length cfg.setup.rows
  -- by the bound the chain's key of its interval couldn't have been disclosed
  pub bound : ℕ
  pub bounded : bound_of cfg.setup.times cfg.lag arrival.reading ≡ Some bound
  pub undisclosed : bound < packet.frame.name.interval + (chain_row cfg chain).delay
  -- and with its own keys none that reaches the interval was taken
  pub unknown : newest cfg (before ++ arrival ∷ []) chain < packet.frame.name.interval

-- a kept packet was safe on each chain of its set
abbrev pub KeptAreSafe : Type 0
KeptAreSafe =
    (cfg : Config) (h : List Entry) (n : ℕ) (arrival : Arrival) (packet : Packet) (chain : ℕ) → IsLegal cfg h →
    slice_get (arrivals_in h) n ≡ Some arrival → packet_of arrival ≡ Some packet → has_chain packet.chains chain ≡ true →
    IsSafeOn cfg (take n (arrivals_in h)) arrival packet chain

-- a key that an arrival took, and that was new, after those before it
pub record IsTakenKey (cfg : Config) (before : List Arrival) (arrival : Arrival) (row : KeyRow) : Type 0 where
  -- its frame carries the key
  pub carried : Contains (keys_in cfg (frame_of arrival.bytes)) row
  -- of a chain and an interval of the setup
  pub chain_is : row.chain.0 < length cfg.setup.rows
  pub within : row.index ≤ cfg.setup.times.last
  -- it was good
  pub good : is_good cfg before row ≡ true

-- each new key of an arrival is one that it took
abbrev pub NewAreTaken : Type 0
NewAreTaken =
    (cfg : Config) (h : List Entry) (n : ℕ) (arrival : Arrival) (row : KeyRow) → IsLegal cfg h →
    slice_get (arrivals_in h) n ≡ Some arrival → Contains (new_keys cfg (take n (arrivals_in h)) arrival) row →
    IsTakenKey cfg (take n (arrivals_in h)) arrival row

-- a key of these arrivals was new on one of them
pub record IsNewOn (cfg : Config) (arrivals : List Arrival) (row : KeyRow) : Type 0 where
  pub n : ℕ
  pub arrival : Arrival
  pub at : slice_get arrivals n ≡ Some arrival
  pub new : Contains (new_keys cfg (take n arrivals) arrival) row

-- all keys that were new when they were taken are those that were new on some arrival
abbrev pub FreshAreNew : Type 0
FreshAreNew = (cfg : Config) (arrivals : List Arrival) (row : KeyRow) → Contains (fresh_keys cfg arrivals) row → IsNewOn cfg arrivals row

abbrev pub NewAreFresh : Type 0
NewAreFresh = (cfg : Config) (arrivals : List Arrival) (row : KeyRow) → IsNewOn cfg arrivals row → Contains (fresh_keys cfg arrivals) row

-- the newest index of a chain rises only by a new key
pub record HasNewKey (cfg : Config) (before : List Arrival) (arrival : Arrival) (chain : ℕ) (index : ℕ) : Type 0 where
  pub row : KeyRow
  pub new : Contains (new_keys cfg before arrival) row
  pub chain_is : row.chain.0 ≡ chain
  pub index_is : row.index ≡ index

abbrev pub NewestRises : Type 0
NewestRises =
    (cfg : Config) (before : List Arrival) (arrival : Arrival) (chain : ℕ) → newest cfg before chain < newest cfg (before ++ arrival ∷ []) chain →
    HasNewKey cfg before arrival chain (newest cfg (before ++ arrival ∷ []) chain)

-- a packet that a new key proves is released under its name then at the latest
abbrev pub ProvedAreReleased : Type 0
ProvedAreReleased =
    (cfg : Config) (arrivals : List Arrival) (m n : ℕ) (kept arrival : Arrival) (packet : Packet) (chain : ℕ) → m < n →
    slice_get arrivals m ≡ Some kept → packet_of kept ≡ Some packet → slice_get arrivals n ≡ Some arrival → chain < length cfg.setup.rows →
    proves cfg (take n arrivals) (new_keys cfg (take n arrivals) arrival) packet chain ≡ true →
    list_any (has_name packet.frame.name) (released cfg (take (n + 1) arrivals)) ≡ true
