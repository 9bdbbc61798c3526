-- What is made, sent and told, as events of a feed over a list come one after another.
use Rattle.std.proofs.Common.{◌≡◌, ◌∙◌, ℕ, Bool, true, false, IfSome, List, [], ◌∷◌, ◌++◌, map, vec_capacity, Option, refl, sym, ap, subst}
use Rattle.std.specs.List.{list_all}
use Rattle.std.proofs.lemmas.List.Sums.{fold-append}
use Rattle.tesla_desk.proofs.Given.{gives_more}
use Rattle.tesla_desk.specs.Clocks.{Gives, Ticking, Ticks}
use Rattle.tesla_desk.specs.Links.{after_letters}
use Rattle.tesla_desk.specs.declared.link.Letter.{Letter}
use Rattle.tesla_relay.specs.Posts.{PostSeen}
use Rattle.tesla_sender.specs.Made.{Stream}
use Rattle.tesla_feed.specs.Due.{IsGiven, datagrams_by}
use Rattle.tesla_feed.specs.Fed.{Event, Rested, reading_of}
use Rattle.tesla_feed.specs.Feed.{Heard, SendPosts, letter_of, received_of, rested_at}
use Rattle.tesla_feed.proofs.Going.{letters_none, letters_twice, map_more}
use Rattle.tesla_feeds.specs.Due.{IsDue, IsWholeGiven}
use Rattle.tesla_feeds.specs.Events.{FeedsAll, MayStage, TakesAll, frames_item}
use Rattle.tesla_feeds.specs.Fed.{Fed, after_event, after_item, fed_all, parts_at}
use Rattle.tesla_feeds.specs.Feeds.{AreNeeded}
use Rattle.tesla_feeds.specs.Going.{ComesOfGiven, Goes, GoesOn, Hears, LosesItem, LosesRest, Rests, Tells, fed_after}
use Rattle.tesla_feeds.specs.Later.{BringsMore, IsLostAt, StandsAll, are_right_where_used, is_one_needed, with_parts}
use Rattle.tesla_feeds.specs.Notes.{Note, all_counts}
use Rattle.tesla_feeds.specs.Opening.{streams_fed}
use Rattle.tesla_feeds.specs.Waits.{are_told}
use Rattle.tesla_feeds.specs.declared.events.Feeders.{Feeders}
use Rattle.tesla_feeds.specs.declared.opening.OpenFeeds.{OpenFeeds}
use Rattle.tesla_feeds.proofs.Behind.{frames_join, item_join, join, own_streams, used_all}
use Rattle.tesla_feeds.proofs.Brought.{room_same, stands_counts, stands_streams, stands_whole, with_feeders}
use Rattle.tesla_feeds.proofs.Frames.{event_item, frames_added, payload_of}
use Rattle.tesla_feeds.proofs.Given.{all_fed, all_given, used_given}
use Rattle.tesla_feeds.proofs.Noted.{noted_given, noting_may, noting_more, tells_more, tells_none}
use Rattle.tesla_feeds.proofs.Sending.{if_some_as}
use Rattle.tesla_feeds.proofs.Streams.{item_same, parts_streams}

-- ---- one event

-- what an event does
abbrev pub Takes : Event → Feeders → Feeders → List PostSeen → List PostSeen → List Bool → List Bool → Type 0
Takes event feeders now posts posts_now failed failed_now =
    (fed : Fed) → FeedsAll feeders fed → TakesAll (after_item (reading_of event) (payload_of event) fed) (frames_item (reading_of event) (payload_of event) fed) now posts posts_now failed failed_now

-- it was taken by the feeders of an open feed, and needs no sender that isn't there
pub record IsTaken (event : Event) (left : List Stream) (feeds : OpenFeeds) (now : Feeders) (posts posts_now : List PostSeen) (failed failed_now : List Bool) : Type 0 where
  pub takes : Takes event feeds.feeders now posts posts_now failed failed_now
  pub room : vec_capacity now.feeders ≡ vec_capacity feeds.feeders.feeders
  pub none : is_one_needed (streams_fed feeds.feeders) left feeds.opening (reading_of event) ≡ false

pub taken_is : (event : Event) (left : List Stream) (feeds : OpenFeeds) (now : Feeders) (posts posts_now : List PostSeen) (failed failed_now : List Bool) → Takes event feeds.feeders now posts posts_now failed failed_now → vec_capacity now.feeders ≡ vec_capacity feeds.feeders.feeders
    → is_one_needed (streams_fed feeds.feeders) left feeds.opening (reading_of event) ≡ false → IsTaken event left feeds now posts posts_now failed failed_now
taken_is event left feeds now posts posts_now failed failed_now takes room none = record { takes = takes; room = room; none = none }

-- what it does to all streams is what it does to those whose senders are there
module _ (event : Event) (left : List Stream) (feeds : OpenFeeds) (fed : Fed) (stands : StandsAll left feeds fed)
    (none : is_one_needed (streams_fed feeds.feeders) left feeds.opening (reading_of event) ≡ false) where
  abbrev own : Fed
  own = with_parts fed stands.front

  own_none : is_one_needed (own_streams own) left feeds.opening (reading_of event) ≡ false
  own_none = subst (λ (ss : List Stream). is_one_needed ss left feeds.opening (reading_of event) ≡ false) (stands_streams left feeds fed stands) none

  own_event : after_event fed event ≡ join (after_item (reading_of event) (payload_of event) own) (parts_at feeds.opening left)
  own_event =
      event_item fed event
      ∙ ap (after_item (reading_of event) (payload_of event)) (stands_whole left feeds fed stands)
      ∙ item_join feeds.opening (reading_of event) left (payload_of event) own own_none

  own_frames : frames_item (reading_of event) (payload_of event) fed ≡ frames_item (reading_of event) (payload_of event) own
  own_frames =
      ap (frames_item (reading_of event) (payload_of event)) (stands_whole left feeds fed stands)
      ∙ frames_join feeds.opening (reading_of event) left (payload_of event) own own_none

  own_same : own_streams (after_item (reading_of event) (payload_of event) own) ≡ streams_fed feeds.feeders
  own_same = item_same (reading_of event) (payload_of event) own ∙ sym (stands_streams left feeds fed stands)

  -- of the streams of which something was made the seeds are right
  used_event : (right : Stream → Bool) → list_all right (streams_fed feeds.feeders) ≡ true → are_right_where_used right (after_event fed event) ≡ true
  used_event right all =
      ap (are_right_where_used right) own_event
      ∙ used_all right (after_item (reading_of event) (payload_of event) own).parts feeds.opening left
      (subst (λ (ss : List Stream). list_all right ss ≡ true) (sym own_same) all)

  module _ (now : Feeders) (posts posts_now : List PostSeen) (failed failed_now : List Bool) (takes : Takes event feeds.feeders now posts posts_now failed failed_now) where
    stands_event : StandsAll left (with_feeders feeds now) (after_event fed event)
    stands_event = subst (λ (f : Fed). StandsAll left (with_feeders feeds now) f) (sym own_event) (record {
      front = (after_item (reading_of event) (payload_of event) own).parts;
      parts_are = refl;
      stands = (takes own stands.stands).stands;
      later = stands.later;
    })

    streams_event : streams_fed now ≡ streams_fed feeds.feeders
    streams_event = parts_streams now.feeders.items (after_item (reading_of event) (payload_of event) own).parts (takes own stands.stands).stands.parts ∙ own_same

    sends_event : (sent : List (List ℕ)) (firsts : List PostSeen) → SendPosts sent firsts posts failed → SendPosts (sent ++ frames_item (reading_of event) (payload_of event) fed) firsts posts_now failed_now
    sends_event sent firsts sends = subst (λ (ds : List (List ℕ)). SendPosts (sent ++ ds) firsts posts_now failed_now) (sym own_frames) ((takes own stands.stands).sends sent firsts sends)

pub goes_event : (right : Stream → Bool) (event : Event) (left : List Stream) (fed : Fed) (firsts : List PostSeen) (feeds : OpenFeeds) (now : Feeders) (posts posts_now : List PostSeen) (failed failed_now : List Bool) → IsTaken event left feeds now posts posts_now failed failed_now → Goes right left fed firsts feeds posts failed → Goes right left (after_event fed event) firsts (with_feeders feeds now) posts_now failed_now
goes_event right event left fed firsts feeds now posts posts_now failed failed_now taken goes =
    let same = streams_event event left feeds fed goes.stands taken.none now posts posts_now failed failed_now taken.takes in
    record {
      stands = stands_event event left feeds fed goes.stands taken.none now posts posts_now failed failed_now taken.takes;
      room = room_same feeds now goes.room same taken.room;
      all_right = subst (λ (ss : List Stream). list_all right ss ≡ true) (sym same) goes.all_right;
      sends = subst (λ (ds : List (List ℕ)). SendPosts ds firsts posts_now failed_now) (sym (ap (λ (f : Fed). f.frames) (event_item fed event) ∙ frames_added (reading_of event) (payload_of event) fed))
          (sends_event event left feeds fed goes.stands taken.none now posts posts_now failed failed_now taken.takes fed.frames firsts goes.sends);
    }

-- what the keys that are made ahead do
pub record MakesNext (feeders now : Feeders) : Type 0 where
  pub makes : (fed : Fed) → FeedsAll feeders fed → FeedsAll now fed
  pub room : vec_capacity now.feeders ≡ vec_capacity feeders.feeders

pub next_is : (feeders now : Feeders) → ((fed : Fed) → FeedsAll feeders fed → FeedsAll now fed) → vec_capacity now.feeders ≡ vec_capacity feeders.feeders → MakesNext feeders now
next_is feeders now makes room = record { makes = makes; room = room }

goes_next : (right : Stream → Bool) (left : List Stream) (fed : Fed) (firsts : List PostSeen) (feeds : OpenFeeds) (now : Feeders) (posts : List PostSeen) (failed : List Bool) → MakesNext feeds.feeders now → Goes right left fed firsts feeds posts failed → Goes right left fed firsts (with_feeders feeds now) posts failed
goes_next right left fed firsts feeds now posts failed next goes =
    let on = goes.stands in
    let all = next.makes (with_parts fed on.front) on.stands in
    let same : streams_fed now ≡ streams_fed feeds.feeders = parts_streams now.feeders.items on.front all.parts ∙ sym (stands_streams left feeds fed on) in
    record {
      stands = record { front = on.front; parts_are = on.parts_are; stands = all; later = on.later };
      room = room_same feeds now goes.room same next.room;
      all_right = subst (λ (ss : List Stream). list_all right ss ≡ true) (sym same) goes.all_right;
      sends = goes.sends;
    }

-- senders were brought
pub goes_brought : (right : Stream → Bool) (left later : List Stream) (fed : Fed) (firsts : List PostSeen) (feeds now : OpenFeeds) (posts : List PostSeen) (failed : List Bool) → BringsMore right feeds now left later → Goes right left fed firsts feeds posts failed → Goes right later fed firsts now posts failed
goes_brought right left later fed firsts feeds now posts failed brings goes = record {
  stands = brings.stands fed goes.stands;
  room = brings.room;
  all_right = brings.right_too goes.all_right;
  sends = goes.sends;
}

-- ---- items

pub hears_none : (right : Stream → Bool) (over : List Stream) (fed : Fed) (firsts : List PostSeen) (feeds : OpenFeeds) (failed : List Bool) (left : Option (List Letter)) (told : Option Ticking) (posts : List PostSeen) (was_told : List Note → Type 0) → Goes right over fed firsts feeds posts failed → Hears right over fed firsts feeds failed left left told told posts was_told was_told
hears_none right over fed firsts feeds failed left told posts was_told goes = record { heard = []; gives = refl; left_is = letters_none left; goes = goes; noted = tells_none fed was_told }

-- senders were brought
pub hears_brought : (right : Stream → Bool) (over now_over : List Stream) (fed : Fed) (firsts : List PostSeen) (feeds now : OpenFeeds) (failed : List Bool) (left later : Option (List Letter)) (before after : Option Ticking) (posts : List PostSeen) (was_told is_told : List Note → Type 0) → BringsMore right feeds now over now_over
    → Hears right over fed firsts feeds failed left later before after posts was_told is_told → Hears right now_over fed firsts now failed left later before after posts was_told is_told
hears_brought right over now_over fed firsts feeds now failed left later before after posts was_told is_told brings hears = record {
  heard = hears.heard;
  gives = hears.gives;
  left_is = hears.left_is;
  goes = goes_brought right over now_over (fed_after fed (map received_of hears.heard)) firsts feeds now posts failed brings hears.goes;
  noted = hears.noted;
}

-- an item more was heard
pub hears_more : (right : Stream → Bool) (over : List Stream) (fed : Fed) (firsts : List PostSeen) (one : Heard) (feeds : OpenFeeds) (now : Feeders) (failed failed_now : List Bool) (left mid later : Option (List Letter)) (before then after : Option Ticking) (posts posts_now : List PostSeen) (was_told then_told is_told : List Note → Type 0) → Hears right over fed firsts feeds failed left mid before then posts was_told then_told
    → mid ≡ after_letters (one.letter ∷ []) later → Ticks then after one.reading
    → IsTaken (received_of one) over feeds now posts posts_now failed failed_now → ((notes : List Note) → then_told notes → is_told (notes ++ record { reading = one.reading; counts = now.counts } ∷ [])) → Hears right over fed firsts (with_feeders feeds now) failed_now left later before after posts_now was_told is_told
hears_more right over fed firsts one feeds now failed failed_now left mid later before then after posts posts_now was_told then_told is_told hears next ticks taken note =
    let events = map received_of hears.heard in
    let event = received_of one in
    let more : map received_of (hears.heard ++ one ∷ []) ≡ events ++ event ∷ [] = map_more received_of hears.heard one in
    let readings : map reading_of (map received_of (hears.heard ++ one ∷ [])) ≡ map reading_of events ++ one.reading ∷ [] = ap (map reading_of) more ∙ map_more reading_of events event in
    let made : fed_after fed (map received_of (hears.heard ++ one ∷ [])) ≡ after_event (fed_after fed events) event = ap (fed_after fed) more ∙ fold-append after_event fed events (event ∷ []) in
    let goes = goes_event right event over (fed_after fed events) firsts feeds now posts posts_now failed failed_now taken hears.goes in
    record {
      heard = hears.heard ++ one ∷ [];
      gives = subst (λ (rs : List ℕ). Gives rs before after) (sym readings) (gives_more (map reading_of events) before then after one.reading hears.gives ticks);
      left_is = hears.left_is ∙ ap (after_letters (map letter_of hears.heard)) next ∙ letters_twice later (map letter_of hears.heard) (one.letter ∷ []) ∙ ap (λ (ls : List Letter). after_letters ls later) (sym (map_more letter_of hears.heard one));
      goes = subst (λ (f : Fed). Goes right over f firsts (with_feeders feeds now) posts_now failed_now) (sym made) goes;
      noted = subst (λ (es : List Event). Tells fed es was_told is_told) (sym more)
          (tells_more fed events event now.counts was_told then_told is_told hears.noted (stands_counts over (with_feeders feeds now) (after_event (fed_after fed events) event) goes.stands) note);
    }

-- and the next keys were made
pub hears_next : (right : Stream → Bool) (over : List Stream) (fed : Fed) (firsts : List PostSeen) (feeds : OpenFeeds) (now : Feeders) (failed : List Bool) (left later : Option (List Letter)) (before after : Option Ticking) (posts : List PostSeen) (was_told is_told : List Note → Type 0) → MakesNext feeds.feeders now → Hears right over fed firsts feeds failed left later before after posts was_told is_told → Hears right over fed firsts (with_feeders feeds now) failed left later before after posts was_told is_told
hears_next right over fed firsts feeds now failed left later before after posts was_told is_told next hears = record {
  heard = hears.heard;
  gives = hears.gives;
  left_is = hears.left_is;
  goes = goes_next right over (fed_after fed (map received_of hears.heard)) firsts feeds now posts failed next hears.goes;
  noted = hears.noted;
}

-- no item was lost
pub loses_none : (streams : List Stream) (opening : ℕ) (left : Option (List Letter)) (told : Option Ticking) → LosesItem false streams opening left left told told
loses_none streams opening left told = record { lost = []; gives = refl; left_is = letters_none left; lost_is = tt; none = λ e. refl }

pub loses_nothing : (streams : List Stream) (opening : ℕ) (left later : Option (List Letter)) (told : Option Ticking) → later ≡ left → LosesItem false streams opening left later told told
loses_nothing streams opening left later told same = record { lost = []; gives = refl; left_is = letters_none left ∙ ap (after_letters []) (sym same); lost_is = tt; none = λ e. refl }

-- one that needs a sender that can't be had was
pub lost_at : (streams : List Stream) (opening reading : ℕ) (left : List Stream) (feeds : OpenFeeds) → streams_fed feeds.feeders ++ left ≡ streams → feeds.opening ≡ opening → is_one_needed (streams_fed feeds.feeders) left feeds.opening reading ≡ true → IsLostAt streams opening reading
lost_at streams opening reading left feeds are same needed = record {
  front = streams_fed feeds.feeders;
  left = left;
  are = sym are;
  needed = subst (λ (o : ℕ). is_one_needed (streams_fed feeds.feeders) left o reading ≡ true) same needed;
}

pub loses_one : (streams : List Stream) (opening : ℕ) (one : Heard) (left later : Option (List Letter)) (before after : Option Ticking) → left ≡ after_letters (one.letter ∷ []) later → Ticks before after one.reading → IsLostAt streams opening one.reading → LosesItem true streams opening left later before after
loses_one streams opening one left later before after next ticks lost = record {
  lost = received_of one ∷ [];
  gives = gives_more [] before before after one.reading refl ticks;
  left_is = next;
  lost_is = (refl, lost);
  none = λ e. absurd cc;
}

-- ---- rests

pub rests_none : (right : Stream → Bool) (over : List Stream) (fed : Fed) (firsts : List PostSeen) (feeds : OpenFeeds) (failed : List Bool) (told : Option Ticking) (posts : List PostSeen) (was_told : List Note → Type 0) → Goes right over fed firsts feeds posts failed → Rests right over fed firsts feeds failed told told posts was_told was_told
rests_none right over fed firsts feeds failed told posts was_told goes = record { rests = []; gives = refl; needed = tt; goes = goes; noted = tells_none fed was_told }

needed_more : (fed : Fed) (rests : List ℕ) (reading : ℕ) → AreNeeded fed rests → are_told (fed_after fed (map rested_at rests)).parts ≡ false → AreNeeded fed (rests ++ reading ∷ [])
needed_more fed [] reading needed untold = (untold, tt)
needed_more fed (one ∷ rests) reading needed untold = (needed.0, needed_more (after_event fed (Rested one)) rests reading needed.1 untold)

-- senders were brought
pub rests_brought : (right : Stream → Bool) (over now_over : List Stream) (fed : Fed) (firsts : List PostSeen) (feeds now : OpenFeeds) (failed : List Bool) (before after : Option Ticking) (posts : List PostSeen) (was_told is_told : List Note → Type 0) → BringsMore right feeds now over now_over
    → Rests right over fed firsts feeds failed before after posts was_told is_told → Rests right now_over fed firsts now failed before after posts was_told is_told
rests_brought right over now_over fed firsts feeds now failed before after posts was_told is_told brings rests = record {
  rests = rests.rests;
  gives = rests.gives;
  needed = rests.needed;
  goes = goes_brought right over now_over (fed_after fed (map rested_at rests.rests)) firsts feeds now posts failed brings rests.goes;
  noted = rests.noted;
}

-- the gate rested once more, and senders were brought behind that
pub rests_more : (right : Stream → Bool) (over now_over : List Stream) (reading : ℕ) (fed : Fed) (firsts : List PostSeen) (feeds brought : OpenFeeds) (now : Feeders) (failed failed_now : List Bool) (before then after : Option Ticking) (posts posts_now : List PostSeen) (was_told then_told is_told : List Note → Type 0) → Rests right over fed firsts feeds failed before then posts was_told then_told
    → ((f : Fed) → StandsAll over feeds f → are_told f.parts ≡ false) → BringsMore right feeds brought over now_over → Ticks then after reading
    → IsTaken (Rested reading) now_over brought now posts posts_now failed failed_now → ((notes : List Note) → then_told notes → is_told (notes ++ record { reading = reading; counts = now.counts } ∷ [])) → Rests right now_over fed firsts (with_feeders brought now) failed_now before after posts_now was_told is_told
rests_more right over now_over reading fed firsts feeds brought now failed failed_now before then after posts posts_now was_told then_told is_told rests untold brings ticks taken note =
    let events = map rested_at rests.rests in
    let mid = fed_after fed events in
    let more : map rested_at (rests.rests ++ reading ∷ []) ≡ events ++ Rested reading ∷ [] = map_more rested_at rests.rests reading in
    let readings : map reading_of (map rested_at (rests.rests ++ reading ∷ [])) ≡ map reading_of events ++ reading ∷ [] = ap (map reading_of) more ∙ map_more reading_of events (Rested reading) in
    let all : fed_after fed (map rested_at (rests.rests ++ reading ∷ [])) ≡ after_event mid (Rested reading) = ap (fed_after fed) more ∙ fold-append after_event fed events (Rested reading ∷ []) in
    let goes = goes_event right (Rested reading) now_over mid firsts brought now posts posts_now failed failed_now taken (goes_brought right over now_over mid firsts feeds brought posts failed brings rests.goes) in
    record {
      rests = rests.rests ++ reading ∷ [];
      gives = subst (λ (rs : List ℕ). Gives rs before after) (sym readings) (gives_more (map reading_of events) before then after reading rests.gives ticks);
      needed = needed_more fed rests.rests reading rests.needed (untold mid rests.goes.stands);
      goes = subst (λ (f : Fed). Goes right now_over f firsts (with_feeders brought now) posts_now failed_now) (sym all) goes;
      noted = subst (λ (es : List Event). Tells fed es was_told is_told) (sym more)
          (tells_more fed events (Rested reading) now.counts was_told then_told is_told rests.noted (stands_counts now_over (with_feeders brought now) (after_event mid (Rested reading)) goes.stands) note);
    }

-- and the next keys were made
pub rests_next : (right : Stream → Bool) (over : List Stream) (fed : Fed) (firsts : List PostSeen) (feeds : OpenFeeds) (now : Feeders) (failed : List Bool) (before after : Option Ticking) (posts : List PostSeen) (was_told is_told : List Note → Type 0) → MakesNext feeds.feeders now → Rests right over fed firsts feeds failed before after posts was_told is_told → Rests right over fed firsts (with_feeders feeds now) failed before after posts was_told is_told
rests_next right over fed firsts feeds now failed before after posts was_told is_told next rests = record {
  rests = rests.rests;
  gives = rests.gives;
  needed = rests.needed;
  goes = goes_next right over (fed_after fed (map rested_at rests.rests)) firsts feeds now posts failed next rests.goes;
  noted = rests.noted;
}

-- no rest was lost, or one
pub loses_no_rest : (streams : List Stream) (opening : ℕ) (told : Option Ticking) → LosesRest false streams opening told told
loses_no_rest streams opening told = record { lost = []; gives = refl; lost_is = tt; none = λ e. refl }

pub loses_rest : (streams : List Stream) (opening reading : ℕ) (before after : Option Ticking) → Ticks before after reading → IsLostAt streams opening reading → LosesRest true streams opening before after
loses_rest streams opening reading before after ticks lost = record {
  lost = reading ∷ [];
  gives = gives_more [] before before after reading refl ticks;
  lost_is = (refl, lost);
  none = λ e. absurd cc;
}

-- ---- what is due

module _ (right : Stream → Bool) (gave : ℕ → Bool) (read_for : ℕ → List ℕ → ℕ → Bool) (streams : List Stream) (number : ℕ) (fed : Fed) (event : Event)
    (comes : ComesOfGiven right gave read_for streams number fed) (given : IsGiven gave read_for number event) (used : are_right_where_used right (after_event fed event) ≡ true) where
  -- a frame that the event adds is due at a post that sent all before it
  frame_due : (before later : List (List ℕ)) (datagram : List ℕ) (sent : Option (List (List ℕ)))
      → frames_item (reading_of event) (payload_of event) fed ≡ before ++ datagram ∷ later → IfSome sent (λ all. all ≡ fed.frames ++ before)
      → IsDue right gave read_for streams sent datagram
  frame_due before later datagram sent is all =
      let earlier = fed_all streams comes.opening comes.events in
      let own : fed.frames ≡ earlier.frames = ap (λ (f : Fed). f.frames) (sym comes.fed_is) in
      record {
        opening = comes.opening;
        opened = comes.opened;
        earlier = comes.events;
        last = event;
        given = all_given right gave read_for streams number fed event comes given;
        before = before;
        later = later;
        frames = ap (λ (f : Fed). f.frames) (all_fed right gave read_for streams number fed event comes given ∙ event_item fed event)
            ∙ frames_added (reading_of event) (payload_of event) fed
            ∙ ap (λ (ds : List (List ℕ)). fed.frames ++ ds) is
            ∙ ap (λ (ds : List (List ℕ)). ds ++ (before ++ datagram ∷ later)) own;
        used = used_given right gave read_for streams number fed event comes given used;
        sent_before = if_some_as sent (fed.frames ++ before) (earlier.frames ++ before) (ap (λ (ds : List (List ℕ)). ds ++ before) own) all;
      }

-- ---- a feed that goes on

module _ {P N : Type 0} (right : Stream → Bool) (seen : P → PostSeen) (may_send : P → List ℕ → Bool) (was_told : N → List Note → Type 0) (may_note : N → Note → Type 0)
    (gave : ℕ → Bool) (read_for : ℕ → List ℕ → ℕ → Bool) (streams : List Stream) (number : ℕ) (left : List Stream) (feeds : OpenFeeds) (posts : List P)
    (failed : List Bool) (notes : N) (on : GoesOn right seen may_send was_told may_note gave read_for streams number left feeds posts failed notes) where
  -- the frames that an event adds may be sent
  pub may_take : (event : Event) → IsGiven gave read_for number event → is_one_needed (streams_fed feeds.feeders) left feeds.opening (reading_of event) ≡ false → MayStage seen may_send feeds.feeders (frames_item (reading_of event) (payload_of event)) posts failed
  may_take event given none =
      let stands = on.goes.stands in
      record {
        fed = with_parts on.fed stands.front;
        stands = stands.stands;
        may = record {
          sent = on.fed.frames;
          firsts = on.first_posts;
          unsent = on.unsent;
          sends = on.goes.sends;
          may = λ before later datagram post is named all. on.due post datagram named
              (frame_due right gave read_for streams number on.fed event on.noting.comes given (used_event event left feeds on.fed stands none right on.goes.all_right)
              before later datagram (seen post).sent (own_frames event left feeds on.fed stands none ∙ is) all);
        };
      }

  module _ (event : Event) (now : Feeders) (posts_now : List P) (failed_now : List Bool) (given : IsGiven gave read_for number event)
      (taken : IsTaken event left feeds now (map seen posts) (map seen posts_now) failed failed_now) where
    takes_now : Goes right left (after_event on.fed event) on.first_posts (with_feeders feeds now) (map seen posts_now) failed_now
    takes_now = goes_event right event left on.fed on.first_posts feeds now (map seen posts) (map seen posts_now) failed failed_now taken on.goes

    takes_used : are_right_where_used right (after_event on.fed event) ≡ true
    takes_used = used_event event left feeds on.fed on.goes.stands taken.none right on.goes.all_right

    takes_counts : now.counts ≡ all_counts (after_event on.fed event)
    takes_counts = stands_counts left (with_feeders feeds now) (after_event on.fed event) takes_now.stands

    -- the counts behind an event may be told
    pub may_tell : may_note notes (record { reading = reading_of event; counts = now.counts })
    may_tell = noting_may right was_told may_note gave read_for streams number on.fed notes on.noting event given now.counts takes_counts takes_used

    -- an event more came, and they were
    pub goes_on_more : (notes_now : N)
        → ((before : List Note) → was_told notes before → was_told notes_now (before ++ record { reading = reading_of event; counts = now.counts } ∷ []))
        → GoesOn right seen may_send was_told may_note gave read_for streams (datagrams_by number event) left (with_feeders feeds now) posts_now failed_now notes_now
    goes_on_more notes_now noted = record {
      first_posts = on.first_posts;
      unsent = on.unsent;
      due = on.due;
      fed = after_event on.fed event;
      noting = noting_more right was_told may_note gave read_for streams number on.fed notes on.noting event given now.counts takes_counts takes_used notes_now noted;
      goes = takes_now;
    }

  -- all counts are those of what came
  pub whole_given : IsWholeGiven right gave read_for streams feeds.feeders.counts (was_told notes)
  whole_given = noted_given right was_told may_note gave read_for streams number on.fed notes on.noting feeds.feeders.counts (stands_counts left feeds on.fed on.goes.stands)

  -- the next keys were made
  pub goes_on_next : (now : Feeders) → MakesNext feeds.feeders now → GoesOn right seen may_send was_told may_note gave read_for streams number left (with_feeders feeds now) posts failed notes
  goes_on_next now next = record {
    first_posts = on.first_posts;
    unsent = on.unsent;
    due = on.due;
    fed = on.fed;
    noting = on.noting;
    goes = goes_next right left on.fed on.first_posts feeds now (map seen posts) failed next on.goes;
  }

  -- senders were brought
  pub goes_on_brought : (now : OpenFeeds) (later : List Stream) → BringsMore right feeds now left later → GoesOn right seen may_send was_told may_note gave read_for streams number later now posts failed notes
  goes_on_brought now later brings = record {
    first_posts = on.first_posts;
    unsent = on.unsent;
    due = on.due;
    fed = on.fed;
    noting = on.noting;
    goes = goes_brought right left later on.fed on.first_posts feeds now (map seen posts) failed brings on.goes;
  }
