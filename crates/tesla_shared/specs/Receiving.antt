-- What workers come to at a receiver of one stream.
use Rattle.std.specs.Prelude.{◌≡◌, ℕ, Bool, List, [], length, slice_index_or, Option}
use Rattle.std.specs.List.{Contains}
use Rattle.tesla_base.specs.declared.release.Head.{Head}
use Rattle.tesla_capture.specs.Release.{release_text}
use Rattle.tesla_fitting.specs.declared.config.Config.{Config}
use Rattle.tesla_receiver.specs.Entries.{Arrival, Entry}
use Rattle.tesla_receiver.specs.History.{IsLegal, arrivals_in, given_in}
use Rattle.tesla_receiver.specs.Packets.{released}
use Rattle.tesla_replay.specs.Records.{records_of}
use Rattle.tesla_state.specs.declared.replies.Reply.{Reply}
use Rattle.tesla_state.specs.declared.replies.Reply.TheVariants.{Given, Empty, Over}
use Rattle.tesla_shared.specs.Due as due
use Rattle.tesla_shared.specs.Yields.{Yield, Record, Nothing}
use Rattle.tesla_shared.specs.Yields as yields

-- a packet that was given yields its record
abbrev pub yield_of : Reply → Yield
yield_of (Given head payload) = Record (release_text head payload)
yield_of Empty = Nothing
yield_of Over = yields.Over

-- the record that is written of the answer to a take
abbrev pub record_in : Reply → List ℕ
record_in reply = yields.record_of yield_of reply

-- the records of the answers that gave a packet, in order
abbrev pub records : List Reply → List ℕ
records answers = yields.records yield_of answers

-- A packet is due to the releaser that has written this, where its output tells that. There is a legal history of calls of workers: of each ingest the n-th arrival is the n-th datagram that its link brought, at a reading that a clock gave when it was asked for that one. The packet is the last that it gave to the releaser, and what was written are the records of those given before
abbrev pub IsDue : Config → (ℕ → List ℕ → ℕ → Bool) → ℕ → Option (List ℕ) → Head → List ℕ → Type 0
IsDue cfg read_for releaser written head payload = due.IsDue yield_of (IsLegal cfg) cfg.ingests read_for releaser written (Given head payload)

-- the same of any answer
abbrev pub IsReplyDue : Config → (ℕ → List ℕ → ℕ → Bool) → ℕ → Option (List ℕ) → Reply → Type 0
IsReplyDue cfg read_for = due.IsDue yield_of (IsLegal cfg) cfg.ingests read_for

-- what the answers for the sinks come to in the whole history
pub record Releases (cfg : Config) (links : List (List Arrival)) (sinks : List (List Reply)) (history : List Entry) : Type 0 where
  -- the records of a releaser are those of the answers for its sink
  pub written : (releaser : ℕ) → records_of releaser history ≡ records (slice_index_or sinks releaser [])
  -- where each ingest has a link, and a take was answered Over, all that is released was given
  pub complete : cfg.ingests ≡ length links → (releaser : ℕ) → Contains (slice_index_or sinks releaser []) Over → given_in history ≡ length (released cfg (arrivals_in history))
