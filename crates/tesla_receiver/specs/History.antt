-- Histories, the one answer to each event, and legal histories.
use Rattle.std.specs.Prelude.{◌≡◌, ℕ, Bool, true, false, List, [], ◌∷◌, ◌++◌, Option, Some, None, slice_get, ◌==◌, count_by, flat_map}
use Rattle.std.specs.List.{list_any, list_all, range_with_len}
use Rattle.tesla_frame.specs.Frame.{Frame, Data, Disclosure}
use Rattle.tesla_frame.specs.Reading.{frame_of}
use Rattle.tesla_receiver.specs.Entries.{Arrival, Entry}
use Rattle.tesla_receiver.specs.declared.history.Entry as entries
use Rattle.tesla_receiver.specs.declared.history.Entry.TheVariants.{Arrived, Taken, Ended}
use Rattle.tesla_state.specs.declared.replies.Reply.{Reply}
use Rattle.tesla_state.specs.declared.replies.Reply.TheVariants.{Given, Empty, Over}
use Rattle.tesla_walks.specs.declared.release.Release.{Release}
use Rattle.tesla_fitting.specs.declared.config.Config.{Config}
use Rattle.tesla_receiver.specs.Packets.{released}
use Rattle.tesla_receiver.specs.Held.{held_of}
use Rattle.tesla_receiver.specs.Answer.{verdict_of}
use Rattle.tesla_state.specs.Releases.{head_of}

-- an event of a receiver, before its answer
pub data Event : Type 0 where
  Arrives : (ingest reading : ℕ) (bytes : List ℕ) → Event
  Takes : (releaser : ℕ) → Event
  Ends : (ingest : ℕ) → Event

abbrev pub event_of : Entry → Event
event_of (Arrived arrival) = Arrives arrival.ingest arrival.reading arrival.bytes
event_of (Taken releaser reply) = Takes releaser
event_of (Ended ingest) = Ends ingest

abbrev pub arrival_in : Entry → List Arrival
arrival_in (Arrived arrival) = arrival ∷ []
arrival_in (Taken releaser reply) = []
arrival_in (Ended ingest) = []

-- the arrivals of a history, in order
abbrev pub arrivals_in : List Entry → List Arrival
arrivals_in history = flat_map arrival_in history

abbrev pub gives : Entry → Bool
gives (Taken releaser (Given head payload)) = true
gives (Taken releaser Empty) = false
gives (Taken releaser Over) = false
gives (Arrived arrival) = false
gives (Ended ingest) = false

-- how many takes gave a packet
abbrev pub given_in : List Entry → ℕ
given_in history = count_by gives history

-- how many packets are held after a history: those kept that aren't gone
abbrev pub held_in : Config → List Entry → ℕ
held_in cfg history = held_of cfg (arrivals_in history) (given_in history) None

-- how many of them are of an interval
abbrev pub held_of_interval : Config → List Entry → ℕ → ℕ
held_of_interval cfg history interval = held_of cfg (arrivals_in history) (given_in history) (Some interval)

module _ {V R : Type 0} where
  abbrev pub ends : ℕ → entries.Entry V R → Bool
  ends ingest (Ended other) = other == ingest
  ends ingest (Arrived arrival) = false
  ends ingest (Taken releaser reply) = false

  abbrev pub has_end : List (entries.Entry V R) → ℕ → Bool
  has_end history ingest = list_any (ends ingest) history

abbrev pub payload_in : Option Frame → List ℕ
payload_in (Some (Data f)) = f.payload
payload_in (Some (Disclosure f)) = []
payload_in None = []

abbrev pub payload_of : Option Arrival → List ℕ
payload_of None = []
payload_of (Some arrival) = payload_in (frame_of arrival.bytes)

abbrev pub reply_with : List Arrival → ℕ → Option Release → Bool → Reply
reply_with arrivals position (Some release) ended =
    Given (head_of position release (payload_of (slice_get arrivals release.place))) (payload_of (slice_get arrivals release.place))
reply_with arrivals position None true = Over
reply_with arrivals position None false = Empty

-- the answer to a take: the next released packet, or whether all ingests have ended
unfoldable pub reply_to : Config → List Entry → Reply
reply_to cfg history =
    reply_with (arrivals_in history) (given_in history)
    (slice_get (released cfg (arrivals_in history)) (given_in history))
    (list_all (has_end history) (range_with_len 0 cfg.ingests))

-- the entry of an event after a history: the event with its answer
abbrev pub entry_of : Config → List Entry → Event → Entry
entry_of cfg history (Arrives ingest reading bytes) =
    Arrived (record { ingest = ingest; reading = reading; bytes = bytes; verdict = verdict_of cfg (arrivals_in history) (given_in history) ingest reading bytes })
entry_of cfg history (Takes releaser) = Taken releaser (reply_to cfg history)
entry_of cfg history (Ends ingest) = Ended ingest

-- every answer is the one answer, after the entries before it
abbrev pub IsLegalAfter : Config → List Entry → List Entry → Type 0
IsLegalAfter cfg before [] = Unit {0}
IsLegalAfter cfg before (entry ∷ entries) =
    (entry ≡ entry_of cfg before (event_of entry)) × IsLegalAfter cfg (before ++ entry ∷ []) entries

abbrev pub IsLegal : Config → List Entry → Type 0
IsLegal cfg history = IsLegalAfter cfg [] history
