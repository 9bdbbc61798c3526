-- What the inner steps of a run come to.
use Rattle.std.specs.Prelude.{◌≡◌, ℕ, Bool, true, false, not, List, [], ◌∷◌, ◌++◌, map, Option}
use Rattle.std.specs.List.{AllByRecursion, fold, list_all}
use Rattle.tesla_desk.specs.Clocks.{Gives, Ticking}
use Rattle.tesla_desk.specs.Links.{after_letters}
use Rattle.tesla_desk.specs.declared.link.Letter.{Letter}
use Rattle.tesla_relay.specs.Opened.{post_name}
use Rattle.tesla_relay.specs.Posts.{PostSeen}
use Rattle.tesla_sender.specs.Made.{Stream}
use Rattle.tesla_feed.specs.Due.{AreGiven, AreUnsent, datagrams_by}
use Rattle.tesla_feed.specs.Fed.{Event, reading_of}
use Rattle.tesla_feed.specs.Feed.{Heard, SendPosts, letter_of, received_of, rested_at}
use Rattle.tesla_feed.specs.declared.hearing.Hearing.{Hearing}
use Rattle.tesla_feed.specs.declared.hearing.Hearing.TheVariants as hearings
use Rattle.tesla_feeds.specs.Due.{MayNoteAll, MaySendDue}
use Rattle.tesla_feeds.specs.Fed.{Fed, after_event, fed_all}
use Rattle.tesla_feeds.specs.Feeds.{AreNeeded}
use Rattle.tesla_feeds.specs.Later.{AreLost, HasRoom, StandsAll, are_right_where_used, letters_in}
use Rattle.tesla_feeds.specs.Notes.{Note, notes_from, notes_of}
use Rattle.tesla_feeds.specs.Opening.{first_lasts, opened_at, some_begun, streams_fed}
use Rattle.tesla_feeds.specs.declared.opening.OpenFeeds.{OpenFeeds}

-- what these events make of what was made before
abbrev pub fed_after : Fed → List Event → Fed
fed_after fed events = fold after_event fed events

-- the notes of these events were told behind whatever was told before them
abbrev pub Tells : Fed → List Event → (List Note → Type 0) → (List Note → Type 0) → Type 0
Tells fed events was_told is_told = (before : List Note) → was_told before → is_told (before ++ notes_from fed events)

-- ---- the wait

-- a feed with another last reading
abbrev pub with_reading : OpenFeeds → ℕ → OpenFeeds
with_reading feeds last = record {
  feeders = record { feeders = feeds.feeders.feeders; counts = feeds.feeders.counts; reading = last };
  later = feeds.later;
  opening = feeds.opening;
}

-- the clock gave readings at which no stream's first interval had begun, each of which was told
pub record WaitsOn (streams : List Stream) (opening : ℕ) (feeds now : OpenFeeds) (before after : Option Ticking) (was_told is_told : List Note → Type 0) : Type 0 where
  pub early : List ℕ
  pub gives : Gives early before after
  pub waits : AllByRecursion (λ reading. some_begun streams opening reading ≡ false) early
  pub last : ℕ
  pub same : now ≡ with_reading feeds last
  pub noted : Tells (opened_at opening streams) (map rested_at early) was_told is_told

-- the clock was read until one had begun, and each reading before that was told
pub record Awaits (streams : List Stream) (opening : ℕ) (feeds now : OpenFeeds) (before after : Option Ticking) (was_told is_told : List Note → Type 0) : Type 0 where
  pub early : List ℕ
  pub begun : ℕ
  pub gives : Gives (early ++ begun ∷ []) before after
  pub waits : AllByRecursion (λ reading. some_begun streams opening reading ≡ false) early
  pub begins : some_begun streams opening begun ≡ true
  pub last : ℕ
  pub same : now ≡ with_reading feeds last
  pub noted : Tells (opened_at opening streams) (map rested_at early) was_told is_told

-- what the wait comes to, told whether one has begun: else the gate told that the run was asked to end
abbrev pub EndsWaiting : Bool → Bool → List Stream → ℕ → OpenFeeds → OpenFeeds → Option Ticking → Option Ticking → (List Note → Type 0) → (List Note → Type 0) → Type 0
EndsWaiting over true streams opening feeds now before after was_told is_told = Awaits streams opening feeds now before after was_told is_told
EndsWaiting over false streams opening feeds now before after was_told is_told = (over ≡ true) × WaitsOn streams opening feeds now before after was_told is_told

-- ---- a feed that goes on

-- what was made is what came of events since an opening, at readings that the clock gave, with so many datagrams among them
pub record ComesOfGiven (right : Stream → Bool) (gave : ℕ → Bool) (read_for : ℕ → List ℕ → ℕ → Bool) (streams : List Stream) (number : ℕ) (fed : Fed) : Type 0 where
  pub opening : ℕ
  pub opened : gave opening ≡ true
  pub lasts : first_lasts opening streams ≡ true
  pub events : List Event
  pub given : AreGiven gave read_for 0 events
  pub number_is : fold datagrams_by 0 events ≡ number
  pub fed_is : fed_all streams opening events ≡ fed
  pub used : are_right_where_used right fed ≡ true

-- what was made came of such events, their notes were told and nothing else, and what follows may be told
pub record NotesOn {N : Type 0} (right : Stream → Bool) (was_told : N → List Note → Type 0) (may_note : N → Note → Type 0) (gave : ℕ → Bool)
    (read_for : ℕ → List ℕ → ℕ → Bool) (streams : List Stream) (number : ℕ) (fed : Fed) (notes : N) : Type 0 where
  pub comes : ComesOfGiven right gave read_for streams number fed
  pub noted : was_told notes (notes_of streams comes.opening comes.events)
  pub may : MayNoteAll right was_told may_note gave read_for streams

-- this was made, while the senders of these streams are left, and the posts, seen so at first, sent it
pub record Goes (right : Stream → Bool) (left : List Stream) (fed : Fed) (first_posts : List PostSeen) (feeds : OpenFeeds) (posts : List PostSeen) (failed : List Bool) : Type 0 where
  pub stands : StandsAll left feeds fed
  pub room : HasRoom feeds
  pub all_right : list_all right (streams_fed feeds.feeders) ≡ true
  pub sends : SendPosts fed.frames first_posts posts failed

-- a feed goes on: what was made came of such events, the posts sent that and nothing else, and may send what is due
pub record GoesOn {P N : Type 0} (right : Stream → Bool) (seen : P → PostSeen) (may_send : P → List ℕ → Bool) (was_told : N → List Note → Type 0)
    (may_note : N → Note → Type 0) (gave : ℕ → Bool) (read_for : ℕ → List ℕ → ℕ → Bool) (streams : List Stream) (number : ℕ)
    (left : List Stream) (feeds : OpenFeeds) (posts : List P) (failed : List Bool) (notes : N) : Type 0 where
  pub first_posts : List PostSeen
  pub unsent : AreUnsent first_posts
  pub due : MaySendDue right seen may_send gave read_for (map post_name first_posts) streams
  pub fed : Fed
  pub noting : NotesOn right was_told may_note gave read_for streams number fed notes
  pub goes : Goes right left fed first_posts feeds (map seen posts) failed

-- items left the link, and what they ask for was done
pub record Hears (right : Stream → Bool) (streams_left : List Stream) (fed : Fed) (first_posts : List PostSeen) (feeds : OpenFeeds) (failed : List Bool) (left later : Option (List Letter)) (before after : Option Ticking) (posts : List PostSeen) (was_told is_told : List Note → Type 0) : Type 0 where
  pub heard : List Heard
  pub gives : Gives (map reading_of (map received_of heard)) before after
  pub left_is : left ≡ after_letters (map letter_of heard) later
  pub goes : Goes right streams_left (fed_after fed (map received_of heard)) first_posts feeds posts failed
  pub noted : Tells fed (map received_of heard) was_told is_told

-- an item more did, where a sender was lacking that it needed
pub record LosesItem (lacking : Bool) (streams : List Stream) (opening : ℕ) (left later : Option (List Letter)) (before after : Option Ticking) : Type 0 where
  pub lost : List Event
  pub gives : Gives (map reading_of lost) before after
  pub left_is : left ≡ after_letters (letters_in lost) later
  pub lost_is : AreLost lacking streams opening lost
  pub none : lost ≡ [] → lacking ≡ false

-- why a feed hears no more is that an item was lost
abbrev pub loses_item : Hearing → Bool
loses_item hearings.Ended = false
loses_item hearings.LinkFailed = false
loses_item hearings.Unheard = false
loses_item hearings.Lacking = false
loses_item hearings.Lost = true

-- what hearing comes to
pub record EndsHearing (hearing : Hearing) (right : Stream → Bool) (streams : List Stream) (opening : ℕ) (streams_left : List Stream) (fed : Fed) (first_posts : List PostSeen) (feeds : OpenFeeds) (failed : List Bool) (left later : Option (List Letter)) (before after : Option Ticking) (posts : List PostSeen) (was_told is_told : List Note → Type 0) : Type 0 where
  pub mid : Option (List Letter)
  pub then : Option Ticking
  pub hears : Hears right streams_left fed first_posts feeds failed left mid before then posts was_told is_told
  pub loses : LosesItem (loses_item hearing) streams opening mid later then after

-- the gate rested, and what that asks for was done
pub record Rests (right : Stream → Bool) (streams_left : List Stream) (fed : Fed) (first_posts : List PostSeen) (feeds : OpenFeeds) (failed : List Bool) (before after : Option Ticking) (posts : List PostSeen) (was_told is_told : List Note → Type 0) : Type 0 where
  pub rests : List ℕ
  pub gives : Gives (map reading_of (map rested_at rests)) before after
  pub needed : AreNeeded fed rests
  pub goes : Goes right streams_left (fed_after fed (map rested_at rests)) first_posts feeds posts failed
  pub noted : Tells fed (map rested_at rests) was_told is_told

-- once more it did, where a sender was lacking that was needed then
pub record LosesRest (lacking : Bool) (streams : List Stream) (opening : ℕ) (before after : Option Ticking) : Type 0 where
  pub lost : List ℕ
  pub gives : Gives (map reading_of (map rested_at lost)) before after
  pub lost_is : AreLost lacking streams opening (map rested_at lost)
  pub none : lost ≡ [] → lacking ≡ false

-- what the rests come to, told whether no sender was lacking
pub record EndsResting (told : Bool) (right : Stream → Bool) (streams : List Stream) (opening : ℕ) (streams_left : List Stream) (fed : Fed) (first_posts : List PostSeen) (feeds : OpenFeeds) (failed : List Bool) (before after : Option Ticking) (posts : List PostSeen) (was_told is_told : List Note → Type 0) : Type 0 where
  pub then : Option Ticking
  pub rests : Rests right streams_left fed first_posts feeds failed before then posts was_told is_told
  pub loses : LosesRest (not told) streams opening then after
