-- The one history that a capture plays.
use Rattle.std.specs.Prelude.{Bool, true, false, List, [], map}
use Rattle.tesla_capture.specs.Capture.{Record}
use Rattle.tesla_capture.specs.Capture as captures
use Rattle.tesla_fitting.specs.declared.config.Config.{Config}
use Rattle.tesla_receiver.specs.Entries.{Entry}
use Rattle.tesla_receiver.specs.History.{Event, Arrives, Takes}
use Rattle.tesla_receiver.specs.Events.{after_events, finished}

-- a record of a capture, as an arrival of ingest 0 or a take of releaser 0
abbrev pub event_in : Record → Event
event_in (captures.Arrives reading bytes) = Arrives 0 reading bytes
event_in captures.Takes = Takes 0

-- the history that the records of a capture play, with its end where the capture is whole
abbrev pub played : Config → List Record → Bool → List Entry
played cfg records true = finished cfg (after_events cfg [] (map event_in records))
played cfg records false = after_events cfg [] (map event_in records)
