-- Streams whose senders are brought later, and when they are needed.
use Rattle.std.specs.Prelude.{◌≡◌, ◌≤◌, ℕ, ◌+◌, ◌-◌, Bool, true, false, not, ◌&&◌, ◌||◌, List, [], ◌∷◌, ◌++◌, drop, length, nat_lt, vec_capacity, Option, Some, None}
use Rattle.std.specs.List.{list_all}
use Rattle.tesla_commit.specs.Parts.{Parts}
use Rattle.tesla_desk.specs.declared.link.Letter.{Letter}
use Rattle.tesla_sender.specs.Made.{Call, Stream, interval_at}
use Rattle.tesla_sender.specs.Stands.{Stands, State}
use Rattle.tesla_feed.specs.Fed.{Event, Received, Rested, is_unread, reading_of}
use Rattle.tesla_feeds.specs.Events.{FeedsAll}
use Rattle.tesla_feeds.specs.Fed.{Fed, Part, lasting, next_setup, opened_with, parts_at}
use Rattle.tesla_feeds.specs.Notes.{all_counts}
use Rattle.tesla_feeds.specs.Opening.{first_lasts, opened_at, some_begun, streams_fed}
use Rattle.tesla_feeds.specs.Steps.{HandsOver}
use Rattle.tesla_feeds.specs.declared.listed.ListedFeeder.{ListedFeeder}
use Rattle.tesla_feeds.specs.declared.later.LaterStream.{LaterStream}
use Rattle.tesla_feeds.specs.declared.opening.OpenFeeds.{OpenFeeds}

-- ---- seeds

-- a stream of which nothing was made, or the seeds of which are right
abbrev pub is_unused : List Call → Bool
is_unused [] = true
is_unused (call ∷ calls) = false

abbrev pub is_right_where_used : (Stream → Bool) → Part → Bool
is_right_where_used right part = is_unused part.log || right part.stream

-- of the streams of which something was made the seeds are right
abbrev pub are_right_where_used : (Stream → Bool) → Fed → Bool
are_right_where_used right fed = list_all (is_right_where_used right) fed.parts

-- ---- senders

-- the sender of the first of the streams that were left was brought, or none was
abbrev pub Brings : (Stream → Bool) → List Stream → List Stream → Option State → Type 0
Brings right left later None = later ≡ left
Brings right left later (Some sender) = Stands sender [] × (left ≡ sender.stream ∷ later) × (right sender.stream ≡ true)

-- these are streams of these setups, with a seed for each chain
abbrev pub AreOf : List Stream → List Parts → Type 0
AreOf [] [] = Unit {0}
AreOf (stream ∷ streams) (setup ∷ setups) = (stream.setup ≡ setup) × (length stream.seeds ≡ length setup.rows) × AreOf streams setups
AreOf streams setups = ⊥

-- each of these is one of the streams, with the handover to the one behind it
abbrev pub AreLater : List LaterStream → List Stream → Type 0
AreLater [] [] = Unit {0}
AreLater (one ∷ ones) (stream ∷ streams) = (one.schedule ≡ stream.setup.times) × HandsOver one.handover stream (next_setup streams) × AreLater ones streams
AreLater ones streams = ⊥

-- these were put behind those, told the setups
pub record PutsLater (before now : List LaterStream) (setups : List Parts) : Type 0 where
  pub later : List LaterStream
  pub is : now ≡ before ++ later
  pub are : (streams : List Stream) → AreOf streams setups → AreLater later streams
  pub many : length later ≡ length setups

-- ---- what is needed

-- the last interval of a stream has ended by a reading
abbrev pub is_stream_past : ℕ → Stream → Bool
is_stream_past reading stream = nat_lt stream.setup.times.last (interval_at stream.setup.times reading)

abbrev pub are_past : List Stream → ℕ → Bool
are_past streams reading = list_all (is_stream_past reading) streams

-- one of the streams that are left is needed at a reading that could be had, told those in front of them: the interval behind that of the opening has begun of one of them, or all in front are past
abbrev pub is_one_needed : List Stream → List Stream → ℕ → ℕ → Bool
is_one_needed front [] opening reading = false
is_one_needed front (stream ∷ left) opening reading =
    not (is_unread reading) && (are_past front reading || some_begun (stream ∷ left) opening reading)

-- ---- an open feed

-- what was made, of these streams alone
abbrev pub with_parts : Fed → List Part → Fed
with_parts fed parts = record { parts = parts; frames = fed.frames; whole = fed.whole; handovers = fed.handovers }

-- an open feed stands for what was made, while the senders of these streams are left: nothing was made of them
pub record StandsAll (left : List Stream) (now : OpenFeeds) (fed : Fed) : Type 0 where
  pub front : List Part
  pub parts_are : fed.parts ≡ front ++ parts_at now.opening left
  pub stands : FeedsAll now.feeders (with_parts fed front)
  pub later : AreLater now.later.items left

-- it has room for all feeders
abbrev pub HasRoom : OpenFeeds → Type 0
HasRoom now = length now.feeders.feeders.items + length now.later.items ≤ vec_capacity now.feeders.feeders

-- it was opened: its first stream isn't over, nothing was made, and the senders of these streams are left
pub record IsOpenFeed (feeds : OpenFeeds) (left : List Stream) : Type 0 where
  pub lasts : first_lasts feeds.opening (streams_fed feeds.feeders ++ left) ≡ true
  pub stands : StandsAll left feeds (opened_at feeds.opening (streams_fed feeds.feeders ++ left))
  pub room : HasRoom feeds
  pub reading : feeds.feeders.reading ≡ feeds.opening

-- the last so many of these streams
abbrev pub last_streams : ℕ → List Stream → List Stream
last_streams many streams = drop (length streams - many) streams

-- these are the first stream, or none
abbrev pub OnlyFirst : Stream → List Stream → Type 0
OnlyFirst first [] = Unit {0}
OnlyFirst first (stream ∷ []) = stream ≡ first
OnlyFirst first (stream ∷ streams) = ⊥

-- a feed over a list was opened at a reading, told the first stream and those behind it: over the streams from the first one on that isn't over; or all are over
abbrev pub OpensFeeds : ℕ → Stream → List Stream → Option OpenFeeds → Type 0
OpensFeeds opening first behind None = lasting opening (first ∷ behind) ≡ []
OpensFeeds opening first behind (Some feeds) =
    let left = last_streams (length feeds.later.items) behind in
    (feeds.opening ≡ opening) × (streams_fed feeds.feeders ++ left ≡ lasting opening (first ∷ behind)) × IsOpenFeed feeds left × OnlyFirst first (streams_fed feeds.feeders)

-- one with these feeders was, over which nothing was counted, with room for those of streams of these setups
pub record OpensWith (feeders : List ListedFeeder) (behind : List Parts) (opening : ℕ) (feeds : OpenFeeds) : Type 0 where
  pub feeders_are : feeds.feeders.feeders.items ≡ feeders
  pub counts : feeds.feeders.counts ≡ all_counts (opened_with [])
  pub reading : feeds.feeders.reading ≡ opening
  pub opening_is : feeds.opening ≡ opening
  pub room : HasRoom feeds
  pub later : (left : List Stream) → AreOf left behind → AreLater feeds.later.items left
  pub many : length feeds.later.items ≡ length behind

-- ---- senders that are brought

-- senders were brought, while these streams were left before and those afterwards: the feed stands for what was made before, and only its feeders and those to come are others
pub record BringsMore (right : Stream → Bool) (before now : OpenFeeds) (left left_now : List Stream) : Type 0 where
  pub stands : (fed : Fed) → StandsAll left before fed → StandsAll left_now now fed
  pub later : AreLater now.later.items left_now
  pub room : HasRoom now
  pub streams_are : streams_fed now.feeders ++ left_now ≡ streams_fed before.feeders ++ left
  pub right_too : list_all right (streams_fed before.feeders) ≡ true → list_all right (streams_fed now.feeders) ≡ true
  pub opening : now.opening ≡ before.opening
  pub counts : now.feeders.counts ≡ before.feeders.counts
  pub reading : now.feeders.reading ≡ before.feeders.reading

-- ---- what was lost

-- one of the streams was needed at a reading, and its sender wasn't there
pub record IsLostAt (streams : List Stream) (opening reading : ℕ) : Type 0 where
  pub front : List Stream
  pub left : List Stream
  pub are : streams ≡ front ++ left
  pub needed : is_one_needed front left opening reading ≡ true

-- nothing was lost; or, where a sender was lacking, an event at such a reading
abbrev pub AreLost : Bool → List Stream → ℕ → List Event → Type 0
AreLost lacking streams opening [] = Unit {0}
AreLost lacking streams opening (event ∷ []) = (lacking ≡ true) × IsLostAt streams opening (reading_of event)
AreLost lacking streams opening (event ∷ events) = ⊥

-- the items that left the link
abbrev pub letters_in : List Event → List Letter
letters_in [] = []
letters_in (Received reading letter ∷ events) = letter ∷ letters_in events
letters_in (Rested reading ∷ events) = letters_in events
