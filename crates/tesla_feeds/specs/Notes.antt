-- What is told of a feed's counts while it runs.
use Rattle.std.specs.Prelude.{ℕ, List, [], ◌∷◌}
use Rattle.tesla_relay.specs.Counts.{counted}
use Rattle.tesla_sender.specs.Made.{Stream}
use Rattle.tesla_feed.specs.Fed.{Event, counts_of, reading_of}
use Rattle.tesla_feeds.specs.Fed.{Fed, after_event}
use Rattle.tesla_feeds.specs.Opening.{opened_at}
use Rattle.tesla_feeds.specs.declared.events.FeedsCounts.{FeedsCounts}

-- how many calls of each kind were made of all streams, how many messages were refused by each cause, and how many handovers were made
abbrev pub all_counts : Fed → FeedsCounts
all_counts fed = record { feed = counts_of fed.whole; handovers = counted fed.handovers }

-- a reading of the clock, and what was counted by then
pub record Note : Type 0 where
  pub reading : ℕ
  pub counts : FeedsCounts

-- the note of an event, behind which this was made
abbrev pub note_at : Event → Fed → Note
note_at event fed = record { reading = reading_of event; counts = all_counts fed }

-- the notes of these events, one for each, told what was made before them: its reading, and the counts of all until then
abbrev pub notes_from : Fed → List Event → List Note
notes_from fed [] = []
notes_from fed (event ∷ events) = note_at event (after_event fed event) ∷ notes_from (after_event fed event) events

-- the notes of all events of a feed over a list that was opened at this reading, where its first stream isn't over then
abbrev pub notes_of : List Stream → ℕ → List Event → List Note
notes_of streams opening events = notes_from (opened_at opening streams) events
