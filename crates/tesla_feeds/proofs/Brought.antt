-- An open feed over a list, and the senders that are brought to it.
use Rattle.std.proofs.Common.{◌≡◌, ◌∙◌, ℕ, ◌+◌, Bool, true, false, List, [], ◌∷◌, ◌++◌, drop, get_or, length, map, vec_capacity, refl, sym, ap, subst, append_assoc, arith}
use Rattle.std.specs.Prelude.{◌&&◌}
use Rattle.std.specs.List.{list_all}
use Rattle.std.proofs.lemmas.List.{length-map, length-append}
use Rattle.tesla_sender.specs.Made.{Stream}
use Rattle.tesla_feed.specs.Fed.{Event, first_interval, nothing_fed}
use Rattle.tesla_feed.specs.Steps.{StandsFor}
use Rattle.tesla_feed.specs.declared.feeder.Feeder.{Feeder}
use Rattle.tesla_feed.proofs.Whole.{map_both}
use Rattle.tesla_feeds.specs.Fed.{Fed, Part, fed_all, next_setup, parts_at}
use Rattle.tesla_feeds.specs.Later.{AreLater, BringsMore, HasRoom, StandsAll, is_right_where_used, with_parts}
use Rattle.tesla_feeds.specs.Notes.{all_counts}
use Rattle.tesla_feeds.specs.Opening.{first_lasts, opened_at, stream_fed, streams_fed, streams_of}
use Rattle.tesla_feeds.specs.Steps.{FeedParts, FeedsPart}
use Rattle.tesla_feeds.specs.declared.events.Feeders.{Feeders}
use Rattle.tesla_feeds.specs.declared.events.FeedsCounts.{FeedsCounts}
use Rattle.tesla_feeds.specs.declared.later.LaterStream.{LaterStream}
use Rattle.tesla_feeds.specs.declared.listed.ListedFeeder.{ListedFeeder}
use Rattle.tesla_feeds.specs.declared.opening.OpenFeeds.{OpenFeeds}
use Rattle.tesla_feeds.proofs.Behind.{join, used_all}
use Rattle.tesla_feeds.proofs.Given.{fed_lasting}
use Rattle.tesla_feeds.proofs.Noted.{counts_are}
use Rattle.tesla_feeds.proofs.Streams.{events_same, opened_streams, parts_streams, stream_in}

-- ---- an open feed

-- one with other feeders
abbrev pub with_feeders : OpenFeeds → Feeders → OpenFeeds
with_feeders feeds feeders = record { feeders = feeders; later = feeds.later; opening = feeds.opening }

-- what was made, of the streams whose senders are there
abbrev pub fed_front : (left : List Stream) (feeds : OpenFeeds) (fed : Fed) → StandsAll left feeds fed → Fed
fed_front left feeds fed stands = with_parts fed stands.front

module _ (left : List Stream) (feeds : OpenFeeds) (fed : Fed) (stands : StandsAll left feeds fed) where
  -- nothing was made of the others
  pub stands_whole : fed ≡ join (with_parts fed stands.front) (parts_at feeds.opening left)
  stands_whole = ap (with_parts fed) stands.parts_are

  pub stands_streams : streams_fed feeds.feeders ≡ map stream_in stands.front
  stands_streams = parts_streams feeds.feeders.feeders.items stands.front stands.stands.parts

  pub stands_counts_in : feeds.feeders.counts ≡ all_counts fed
  stands_counts_in = counts_are feeds.feeders.feeders.items feeds.feeders.counts (with_parts fed stands.front) stands.stands

  -- of the streams of which something was made the seeds are right
  pub stands_used : (right : Stream → Bool) → list_all right (streams_fed feeds.feeders) ≡ true → list_all (is_right_where_used right) fed.parts ≡ true
  stands_used right all =
      ap (list_all (is_right_where_used right)) stands.parts_are
      ∙ used_all right stands.front feeds.opening left (subst (λ (ss : List Stream). list_all right ss ≡ true) stands_streams all)

pub stands_counts : (left : List Stream) (feeds : OpenFeeds) (fed : Fed) → StandsAll left feeds fed → feeds.feeders.counts ≡ all_counts fed
stands_counts left feeds fed stands = stands_counts_in left feeds fed stands

-- room stays where the streams and the capacity do
pub room_same : (feeds : OpenFeeds) (now : Feeders) → HasRoom feeds → streams_fed now ≡ streams_fed feeds.feeders → vec_capacity now.feeders ≡ vec_capacity feeds.feeders.feeders → HasRoom (with_feeders feeds now)
room_same feeds now room same capacity =
    let many : length now.feeders.items ≡ length feeds.feeders.feeders.items =
    sym (length-map now.feeders.items stream_fed) ∙ ap (λ (ss : List Stream). length ss) same ∙ length-map feeds.feeders.feeders.items stream_fed in
    omega (arith, room, many, capacity)

-- ---- a sender more

parts_more : (feeders : List ListedFeeder) (parts : List Part) (feeder : ListedFeeder) (part : Part) → FeedParts feeders parts → FeedsPart feeder part → FeedParts (feeders ++ feeder ∷ []) (parts ++ part ∷ [])
parts_more [] [] feeder part stands one = (one, tt)
parts_more [] (other ∷ parts) feeder part stands one = absurd stands
parts_more (other ∷ feeders) [] feeder part stands one = absurd stands
parts_more (other ∷ feeders) (first ∷ parts) feeder part stands one = (stands.0, parts_more feeders parts feeder part stands.1 one)

-- the part of a stream of which nothing was made
abbrev pub part_at : ℕ → Stream → List Stream → Part
part_at opening stream behind = record {
  stream = stream;
  first = first_interval stream.setup.times opening;
  next = next_setup behind;
  log = [];
  handed = 0;
}

streams_more : (feeders : List ListedFeeder) (feeder : ListedFeeder) (behind : List Stream) → streams_of (feeders ++ feeder ∷ []) ++ behind ≡ streams_of feeders ++ feeder.feeder.sender.stream ∷ behind
streams_more [] feeder behind = refl
streams_more (other ∷ feeders) feeder behind = ap (λ (ss : List Stream). other.feeder.sender.stream ∷ ss) (streams_more feeders feeder behind)

and_more : (a b : Bool) → a ≡ true → b ≡ true → (a && b) ≡ true
and_more true b first second = second
and_more false b first second = absurd cc

right_where : (a b c : Bool) → (a && b) ≡ true → (b ≡ true → c ≡ true) → (a && c) ≡ true
right_where true b c all more = more all
right_where false b c all more = absurd cc

right_more : (right : Stream → Bool) (feeders : List ListedFeeder) (feeder : ListedFeeder) → right feeder.feeder.sender.stream ≡ true → list_all right (streams_of feeders) ≡ true → list_all right (streams_of (feeders ++ feeder ∷ [])) ≡ true
right_more right [] feeder one all = and_more (right feeder.feeder.sender.stream) true one refl
right_more right (other ∷ feeders) feeder one all = right_where (right other.feeder.sender.stream) (list_all right (streams_of feeders)) _ all (right_more right feeders feeder one)

brought_stands : (feeds now : OpenFeeds) (stream : Stream) (left : List Stream) (feeder : ListedFeeder) (fed : Fed) → StandsAll (stream ∷ left) feeds fed → FeedsPart feeder (part_at feeds.opening stream left)
    → now.feeders.feeders.items ≡ feeds.feeders.feeders.items ++ feeder ∷ [] → AreLater now.later.items left → now.opening ≡ feeds.opening → now.feeders.counts ≡ feeds.feeders.counts → StandsAll left now fed
brought_stands feeds now stream left feeder fed on own items after opening counts =
    let part = part_at feeds.opening stream left in
    record {
      front = on.front ++ part ∷ [];
      parts_are = on.parts_are ∙ sym (append_assoc on.front (part ∷ []) (parts_at feeds.opening left)) ∙ ap (λ (o : ℕ). (on.front ++ part ∷ []) ++ parts_at o left) (sym opening);
      stands = record {
        parts = subst (λ (fs : List ListedFeeder). FeedParts fs (on.front ++ part ∷ [])) (sym items) (parts_more feeds.feeders.feeders.items on.front feeder part on.stands.parts own);
        feed = ap (λ (c : FeedsCounts). c.feed) counts ∙ on.stands.feed;
        handovers = ap (λ (c : FeedsCounts). c.handovers) counts ∙ on.stands.handovers;
      };
      later = after;
    }

-- it is that of the first stream that was left
brings_one : (right : Stream → Bool) (feeds now : OpenFeeds) (stream : Stream) (left : List Stream) (one : LaterStream) (rest : List LaterStream) (feeder : Feeder)
    → feeds.later.items ≡ one ∷ rest → AreLater (one ∷ rest) (stream ∷ left) → right stream ≡ true → HasRoom feeds
    → StandsFor stream (first_interval stream.setup.times feeds.opening) feeder nothing_fed
    → now.feeders.feeders.items ≡ feeds.feeders.feeders.items ++ record { feeder = feeder; handover = one.handover; handed = 0 } ∷ []
    → vec_capacity now.feeders.feeders ≡ vec_capacity feeds.feeders.feeders → now.later.items ≡ rest → now.opening ≡ feeds.opening
    → now.feeders.counts ≡ feeds.feeders.counts → now.feeders.reading ≡ feeds.feeders.reading
    → BringsMore right feeds now (stream ∷ left) left
brings_one right feeds now stream left one rest feeder are later is_right room stands items capacity others opening counts reading =
    let it : ListedFeeder = record { feeder = feeder; handover = one.handover; handed = 0 } in
    let before = feeds.feeders.feeders.items in
    let own : FeedsPart it (part_at feeds.opening stream left) = record { made = nothing_fed; log_is = refl; stands = stands; handover = later.1; handed = refl } in
    let after : AreLater now.later.items left = subst (λ (ls : List LaterStream). AreLater ls left) (sym others) later.2 in
    let more : length now.feeders.feeders.items ≡ length before + 1 = ap (λ (fs : List ListedFeeder). length fs) items ∙ length-append before (it ∷ []) in
    let fewer : length feeds.later.items ≡ length (one ∷ rest) = ap (λ (ls : List LaterStream). length ls) are in
    let many : length now.later.items ≡ length rest = ap (λ (ls : List LaterStream). length ls) others in
    record {
      stands = λ fed on. brought_stands feeds now stream left it fed on own items after opening counts;
      later = after;
      room = omega (arith, room, more, fewer, many, capacity);
      streams_are = ap (λ (fs : List ListedFeeder). streams_of fs ++ left) items ∙ streams_more before it left ∙ ap (λ (s : Stream). streams_of before ++ s ∷ left) stands.stream_is;
      right_too = λ all. subst (λ (fs : List ListedFeeder). list_all right (streams_of fs) ≡ true) (sym items) (right_more right before it (ap right stands.stream_is ∙ is_right) all);
      opening = opening;
      counts = counts;
      reading = reading;
    }

-- the first of those that are left
later_next : (items : List LaterStream) (one : LaterStream) (rest : List LaterStream) (stream : Stream) (left : List Stream) → AreLater items (stream ∷ left) → one ≡ get_or items 0 one → rest ≡ drop 1 items → items ≡ one ∷ rest
later_next [] one rest stream left are is others = absurd are
later_next (first ∷ items) one rest stream left are is others = ap (λ (o : LaterStream). o ∷ items) (sym is) ∙ ap (λ (ls : List LaterStream). one ∷ ls) (sym others)

pub brings_next : (right : Stream → Bool) (feeds now : OpenFeeds) (stream : Stream) (over left : List Stream) (one : LaterStream) (feeder : Feeder)
    → over ≡ stream ∷ left → AreLater feeds.later.items over → right stream ≡ true → HasRoom feeds
    → one ≡ get_or feeds.later.items 0 one → now.later.items ≡ drop 1 feeds.later.items
    → StandsFor stream (first_interval stream.setup.times feeds.opening) feeder nothing_fed
    → now.feeders.feeders.items ≡ feeds.feeders.feeders.items ++ record { feeder = feeder; handover = one.handover; handed = 0 } ∷ []
    → vec_capacity now.feeders.feeders ≡ vec_capacity feeds.feeders.feeders → now.opening ≡ feeds.opening
    → now.feeders.counts ≡ feeds.feeders.counts → now.feeders.reading ≡ feeds.feeders.reading
    → BringsMore right feeds now over left
brings_next right feeds now stream over left one feeder whole later is_right room is others stands items capacity opening counts reading =
    let own : AreLater feeds.later.items (stream ∷ left) = subst (λ (ss : List Stream). AreLater feeds.later.items ss) whole later in
    let are : feeds.later.items ≡ one ∷ now.later.items = later_next feeds.later.items one now.later.items stream left own is others in
    subst (λ (ss : List Stream). BringsMore right feeds now ss left) (sym whole)
    (brings_one right feeds now stream left one now.later.items feeder are (subst (λ (ls : List LaterStream). AreLater ls (stream ∷ left)) are own) is_right room stands items capacity refl opening counts reading)

-- none was brought
pub brings_none : (right : Stream → Bool) (feeds : OpenFeeds) (left later : List Stream) → later ≡ left → AreLater feeds.later.items left → HasRoom feeds → BringsMore right feeds feeds left later
brings_none right feeds left later same are room =
    subst (λ (ss : List Stream). BringsMore right feeds feeds left ss) (sym same) (record {
      stands = λ fed on. on;
      later = are;
      room = room;
      streams_are = refl;
      right_too = λ all. all;
      opening = refl;
      counts = refl;
      reading = refl;
    })

-- some were, and then others
pub brings_both : (right : Stream → Bool) (feeds mid now : OpenFeeds) (left then later : List Stream) → BringsMore right feeds mid left then → BringsMore right mid now then later → BringsMore right feeds now left later
brings_both right feeds mid now left then later first second = record {
  stands = λ fed on. second.stands fed (first.stands fed on);
  later = second.later;
  room = second.room;
  streams_are = second.streams_are ∙ first.streams_are;
  right_too = λ all. second.right_too (first.right_too all);
  opening = second.opening ∙ first.opening;
  counts = second.counts ∙ first.counts;
  reading = second.reading ∙ first.reading;
}

-- ---- the streams of a feed

stands_both : (feeders : List ListedFeeder) (front behind : List Part) → FeedParts feeders front → streams_of feeders ++ map stream_in behind ≡ map stream_in (front ++ behind)
stands_both feeders front behind stands = ap (λ (ss : List Stream). ss ++ map stream_in behind) (parts_streams feeders front stands) ∙ sym (map_both stream_in front behind)

-- they are those of its feeders and those that are left
pub stands_own : (left : List Stream) (feeds : OpenFeeds) (streams : List Stream) (opening : ℕ) (events : List Event) → first_lasts opening streams ≡ true → StandsAll left feeds (fed_all streams opening events) → streams_fed feeds.feeders ++ left ≡ streams
stands_own left feeds streams opening events lasts on =
    let behind = parts_at feeds.opening left in
    ap (λ (ss : List Stream). streams_fed feeds.feeders ++ ss) (sym (opened_streams feeds.opening left))
    ∙ stands_both feeds.feeders.feeders.items on.front behind on.stands.parts
    ∙ ap (map stream_in) (sym on.parts_are)
    ∙ ap (λ (f : Fed). map stream_in f.parts) (fed_lasting streams opening events lasts)
    ∙ events_same (opened_at opening streams) events
    ∙ opened_streams opening streams
