-- The laws over feeds of lists.
use Rattle.std.specs.Prelude.{◌≡◌, ℕ, ◌+◌, ◌<◌, ◌≤◌, false, List, [], ◌∷◌, Option, None}
use Rattle.std.specs.List.{AllByRecursion, Contains}
use Rattle.tesla_commit.specs.Parts.{Parts}
use Rattle.tesla_sender.specs.Made.{Call, Stream, interval_in, reading_of}
use Rattle.tesla_sender.specs.Stands.{AreAcceptedAfter}
use Rattle.tesla_feed.specs.Fed.{Event, Rested, datagrams_of, fed, is_unread}
use Rattle.tesla_feeds.specs.Events.{frames_item}
use Rattle.tesla_feeds.specs.Fed.{Fed, Part, after_event, after_item, fed_all, lasting}
use Rattle.tesla_feeds.specs.Opening.{opened_at}
use Rattle.tesla_feeds.specs.Order.{AreInOrder, disorder_from}
use Rattle.tesla_feeds.specs.Waits.{until_first, until_next}

-- a feed over a list of one stream makes the calls of a feed of that stream, refuses the same messages, sends the same frames, and makes no handover
abbrev pub FeedsAlone : Type 0
FeedsAlone =
    (stream : Stream) (opening : ℕ) (events : List Event)
    → ((fed_all (stream ∷ []) opening events).whole ≡ fed stream opening events)
    × ((fed_all (stream ∷ []) opening events).frames ≡ datagrams_of stream (fed stream opening events).log)
    × ((fed_all (stream ∷ []) opening events).handovers ≡ 0)

-- the log of a stream is the log of a sender of it
abbrev pub IsAcceptedPart : Part → Type 0
IsAcceptedPart part = AreAcceptedAfter part.stream [] part.log

-- of each stream of a feed over a list: each call is accepted after those before it of the same stream
abbrev pub FeedsAccepted : Type 0
FeedsAccepted = (streams : List Stream) (opening : ℕ) (events : List Event) → AllByRecursion IsAcceptedPart (fed_all streams opening events).parts

-- this call was made of a stream, a handover too
abbrev pub IsMade : Fed → Part → Call → Type 0
IsMade fed part call = Contains fed.parts part × Contains part.log call

-- where a feed over a list was opened at a reading of at least every reading of another's calls, over whichever list that was, its calls of a stream are in later intervals than the other's of that stream
abbrev pub FeedsApart : Type 0
FeedsApart =
    (streams others : List Stream) (opening reopening : ℕ) (events more : List Event)
    → ((part : Part) (call : Call) → IsMade (fed_all streams opening events) part call → reading_of call ≤ reopening)
    → (part other : Part) (call again : Call) → IsMade (fed_all streams opening events) part call → IsMade (fed_all others reopening more) other again
    → part.stream ≡ other.stream → interval_in part.stream.setup.times call < interval_in other.stream.setup.times again

-- a feed over a list is one over the streams of it that aren't over at the opening
abbrev pub FeedsLasting : Type 0
FeedsLasting = (streams : List Stream) (opening : ℕ) (events : List Event) → fed_all (lasting opening streams) opening events ≡ fed_all streams opening events

-- nothing is made of an open feed at a rest before an interval behind that of the opening begins of some stream
abbrev pub FeedsWait : Type 0
FeedsWait =
    (streams : List Stream) (opening reading later : ℕ) → reading ≤ later → later < reading + until_first streams opening reading
    → after_event (opened_at opening streams) (Rested later) ≡ opened_at opening streams

-- behind an event at a reading nothing is sent at a rest before the next interval begins of a stream that tells more keys, whatever was made before
abbrev pub FeedsRest : Type 0
FeedsRest =
    (fed : Fed) (reading later : ℕ) (payload : Option (List ℕ)) → is_unread reading ≡ false → reading ≤ later
    → later < reading + until_next (after_item reading payload fed).parts reading
    → frames_item later None (after_item reading payload fed) ≡ []

-- streams are in order exactly where no pair of them is told
abbrev pub DisordersAreTold : Type 0
DisordersAreTold = (setups : List Parts) → (disorder_from 0 setups ≡ None → AreInOrder setups) × (AreInOrder setups → disorder_from 0 setups ≡ None)
