-- The release records that a history gave.
use Rattle.std.specs.Prelude.{ℕ, List, [], ◌==◌, if◌then◌else◌, flat_map, slice_get}
use Rattle.std.specs.List.{enumerate_from}
use Rattle.tesla_capture.specs.Release.{release_text}
use Rattle.tesla_receiver.specs.Entries.{Arrival, Entry}
use Rattle.tesla_receiver.specs.declared.history.Entry.TheVariants.{Arrived, Taken, Ended}
use Rattle.tesla_state.specs.declared.replies.Reply.{Reply}
use Rattle.tesla_state.specs.declared.replies.Reply.TheVariants.{Given, Empty, Over}
use Rattle.tesla_fitting.specs.declared.config.Config.{Config}
use Rattle.tesla_walks.specs.declared.release.Release.{Release}
use Rattle.tesla_receiver.specs.Packets.{released}
use Rattle.tesla_receiver.specs.History.{payload_of}
use Rattle.tesla_state.specs.Releases.{head_of}

abbrev pub text_given : Reply → List ℕ
text_given (Given head payload) = release_text head payload
text_given Empty = []
text_given Over = []

-- the release record of a take by this releaser that gave a packet
abbrev pub record_in : ℕ → Entry → List ℕ
record_in releaser (Taken taker reply) = if taker == releaser then text_given reply else []
record_in releaser (Arrived arrival) = []
record_in releaser (Ended ingest) = []

-- the release records of a releaser's takes, in order
abbrev pub records_of : ℕ → List Entry → List ℕ
records_of releaser history = flat_map (record_in releaser) history

-- the release record of a released packet, with how many were released before it
abbrev pub text_of : List Arrival → ℕ × Release → List ℕ
text_of arrivals p =
    release_text (head_of p.0 p.1 (payload_of (slice_get arrivals p.1.place))) (payload_of (slice_get arrivals p.1.place))

-- the release records of these packets, in order
abbrev pub texts_of : List Arrival → List Release → List ℕ
texts_of arrivals releases = flat_map (text_of arrivals) (enumerate_from 0 releases)

-- the release records of all that is released
abbrev pub released_text : Config → List Arrival → List ℕ
released_text cfg arrivals = texts_of arrivals (released cfg arrivals)
