-- How a feed over a list is opened, and which streams it feeds.
use Rattle.std.specs.Prelude.{ℕ, Bool, false, not, List, [], ◌∷◌, map, Option, Some, None}
use Rattle.std.specs.List.{list_any}
use Rattle.tesla_commit.specs.Parts.{Parts}
use Rattle.tesla_sender.specs.Made.{Stream}
use Rattle.tesla_feed.specs.Fed.{first_interval, has_begun, has_ended}
use Rattle.tesla_feeds.specs.Fed.{Fed, opened_with, parts_at}
use Rattle.tesla_feeds.specs.declared.events.Feeders.{Feeders}
use Rattle.tesla_feeds.specs.declared.listed.ListedFeeder.{ListedFeeder}

-- ---- the streams of a list

abbrev pub stream_fed : ListedFeeder → Stream
stream_fed one = one.feeder.sender.stream

abbrev pub streams_of : List ListedFeeder → List Stream
streams_of feeders = map stream_fed feeders

abbrev pub streams_fed : Feeders → List Stream
streams_fed now = streams_of now.feeders.items

-- the setup of the first of these streams, where there is one
abbrev pub first_setup : List Parts → Option Parts
first_setup [] = None
first_setup (setup ∷ setups) = Some setup

-- ---- the opening

-- the first of these streams isn't over at the opening
abbrev pub first_lasts : ℕ → List Stream → Bool
first_lasts opening [] = false
first_lasts opening (stream ∷ streams) = not (has_ended stream opening)

-- a feed over these was opened, and nothing was made yet
abbrev pub opened_at : ℕ → List Stream → Fed
opened_at opening streams = opened_with (parts_at opening streams)

-- ---- the first interval

-- a stream has an interval behind that of the opening which has begun by a reading
abbrev pub begins_by : ℕ → ℕ → Stream → Bool
begins_by opening reading stream = has_begun stream.setup.times (first_interval stream.setup.times opening) reading

-- one of these streams has
abbrev pub some_begun : List Stream → ℕ → ℕ → Bool
some_begun streams opening reading = list_any (begins_by opening reading) streams
