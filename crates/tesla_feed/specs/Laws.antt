-- The laws over feeds.
use Rattle.std.specs.Prelude.{◌≡◌, ℕ, ◌<◌, ◌≤◌, true, List, []}
use Rattle.std.specs.List.{Contains}
use Rattle.tesla_sender.specs.Made.{Call, Stream, interval_in, reading_of}
use Rattle.tesla_sender.specs.Stands.{AreAcceptedAfter}
use Rattle.tesla_feed.specs.Fed.{Event, fed, has_ended, nothing_fed}

-- a feed's log is the log of a sender
abbrev pub FeedsAreAccepted : Type 0
FeedsAreAccepted = (stream : Stream) (opening : ℕ) (events : List Event) → AreAcceptedAfter stream [] (fed stream opening events).log

-- where a feed was opened at a reading of at least every reading of another's log, its calls are in later intervals
abbrev pub FeedsApart : Type 0
FeedsApart =
    (stream : Stream) (opening reopening : ℕ) (events others : List Event) → ((call : Call) → Contains (fed stream opening events).log call → reading_of call ≤ reopening) →
    (call other : Call) → Contains (fed stream opening events).log call → Contains (fed stream reopening others).log other → interval_in stream.setup.times call < interval_in stream.setup.times other

-- a feed that is over when it is opened makes no call and tells no key
abbrev pub FeedsEnd : Type 0
FeedsEnd = (stream : Stream) (opening : ℕ) (events : List Event) → has_ended stream opening ≡ true → fed stream opening events ≡ nothing_fed
