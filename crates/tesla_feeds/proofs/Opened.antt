-- How a feed over a list is opened.
use Rattle.std.proofs.Common.{◌≡◌, ◌∙◌, ◌≤◌, ℕ, suc, ◌-◌, Bool, true, false, List, [], ◌∷◌, ◌++◌, drop, length, Option, Some, None, refl, sym, ap, subst, arith}
use Rattle.std.specs.Prelude.{if◌then◌else◌, not}
use Rattle.tesla_commit.specs.Parts.{Parts}
use Rattle.tesla_sender.specs.Made.{Stream}
use Rattle.tesla_feed.specs.Fed.{first_interval, has_ended, nothing_fed}
use Rattle.tesla_feed.specs.Steps.{StandsFor}
use Rattle.tesla_feed.specs.declared.feeder.Feeder.{Feeder}
use Rattle.tesla_feeds.specs.Fed.{Part, lasting, next_setup, parts_at}
use Rattle.tesla_feeds.specs.Later.{AreOf, IsOpenFeed, OnlyFirst, OpensFeeds, OpensWith, last_streams}
use Rattle.tesla_feeds.specs.Opening.{first_lasts, first_setup, streams_fed, streams_of}
use Rattle.tesla_feeds.specs.Steps.{FeedParts, FeedsPart, HandsOver}
use Rattle.tesla_feeds.specs.declared.events.FeedsCounts.{FeedsCounts}
use Rattle.tesla_feeds.specs.declared.listed.Handover.{Handover}
use Rattle.tesla_feeds.specs.declared.listed.ListedFeeder.{ListedFeeder}
use Rattle.tesla_feeds.specs.declared.opening.OpenFeeds.{OpenFeeds}
use Rattle.tesla_feeds.proofs.Brought.{part_at}
use Rattle.tesla_feeds.proofs.Streams.{lasting_lasts}

-- ---- streams of setups

of_length : (streams : List Stream) (setups : List Parts) → AreOf streams setups → length streams ≡ length setups
of_length [] [] are = refl
of_length [] (setup ∷ setups) are = absurd are
of_length (stream ∷ streams) [] are = absurd are
of_length (stream ∷ streams) (setup ∷ setups) are = ap suc (of_length streams setups are.2)

of_first : (streams : List Stream) (setups : List Parts) → AreOf streams setups → first_setup setups ≡ next_setup streams
of_first [] [] are = refl
of_first [] (setup ∷ setups) are = absurd are
of_first (stream ∷ streams) [] are = absurd are
of_first (stream ∷ streams) (setup ∷ setups) are = ap (λ (p : Parts). Some p) (sym are.0)

-- ---- the last of them

fewer_where : (stream : Stream) (streams : List Stream) (opening : ℕ) (over : Bool) → length (lasting opening streams) ≤ length streams → length (if over then lasting opening streams else stream ∷ streams) ≤ length (stream ∷ streams)
fewer_where stream streams opening true fewer = omega (arith, fewer)
fewer_where stream streams opening false fewer = omega arith

lasting_fewer : (opening : ℕ) (streams : List Stream) → length (lasting opening streams) ≤ length streams
lasting_fewer opening [] = omega arith
lasting_fewer opening (stream ∷ streams) = fewer_where stream streams opening (has_ended stream opening) (lasting_fewer opening streams)

last_where : (stream : Stream) (streams : List Stream) (opening : ℕ) (over : Bool) → length (lasting opening streams) ≤ length streams → last_streams (length (lasting opening streams)) streams ≡ lasting opening streams
    → last_streams (length (if over then lasting opening streams else stream ∷ streams)) (stream ∷ streams) ≡ (if over then lasting opening streams else stream ∷ streams)
last_where stream streams opening true fewer others =
    let one : length (stream ∷ streams) - length (lasting opening streams) ≡ suc (length streams - length (lasting opening streams)) = omega (arith, fewer) in
    ap (λ (n : ℕ). drop n (stream ∷ streams)) one ∙ others
last_where stream streams opening false fewer others =
    let none : length (stream ∷ streams) - length (stream ∷ streams) ≡ 0 = omega arith in
    ap (λ (n : ℕ). drop n (stream ∷ streams)) none

last_lasting : (opening : ℕ) (streams : List Stream) → last_streams (length (lasting opening streams)) streams ≡ lasting opening streams
last_lasting opening [] = refl
last_lasting opening (stream ∷ streams) = last_where stream streams opening (has_ended stream opening) (lasting_fewer opening streams) (last_lasting opening streams)

last_all : (many : ℕ) (streams : List Stream) → many ≡ length streams → last_streams many streams ≡ streams
last_all many streams all =
    let none : length streams - many ≡ 0 = omega (arith, all) in
    ap (λ (n : ℕ). drop n streams) none

-- ---- an open feed

open_is : (opening : ℕ) (feeds : OpenFeeds) (items : List ListedFeeder) (behind : List Parts) (front : List Part) (own left : List Stream) → OpensWith items behind opening feeds → FeedParts items front → streams_of items ≡ own → AreOf left behind
    → parts_at opening (own ++ left) ≡ front ++ parts_at opening left → first_lasts opening (own ++ left) ≡ true → IsOpenFeed feeds left
open_is opening feeds items behind front own left opens stands same are parts lasts =
    let fed : streams_fed feeds.feeders ≡ own = ap (λ (fs : List ListedFeeder). streams_of fs) opens.feeders_are ∙ same in
    record {
      lasts = subst (λ (o : ℕ). first_lasts o (streams_fed feeds.feeders ++ left) ≡ true) (sym opens.opening_is) (ap (λ (ss : List Stream). first_lasts opening (ss ++ left)) fed ∙ lasts);
      stands = record {
        front = front;
        parts_are = subst (λ (o : ℕ). parts_at o (streams_fed feeds.feeders ++ left) ≡ front ++ parts_at o left) (sym opens.opening_is) (ap (λ (ss : List Stream). parts_at opening (ss ++ left)) fed ∙ parts);
        stands = record {
          parts = subst (λ (fs : List ListedFeeder). FeedParts fs front) (sym opens.feeders_are) stands;
          feed = ap (λ (c : FeedsCounts). c.feed) opens.counts;
          handovers = ap (λ (c : FeedsCounts). c.handovers) opens.counts;
        };
        later = opens.later left are;
      };
      room = opens.room;
      reading = opens.reading ∙ sym opens.opening_is;
    }

on_where : (stream : Stream) (streams : List Stream) (opening : ℕ) (over : Bool) → over ≡ false → (if over then lasting opening streams else stream ∷ streams) ≡ stream ∷ streams
on_where stream streams opening true is = absurd cc
on_where stream streams opening false is = refl

over_where : (stream : Stream) (streams : List Stream) (opening : ℕ) (over : Bool) → over ≡ true → (if over then lasting opening streams else stream ∷ streams) ≡ lasting opening streams
over_where stream streams opening true is = refl
over_where stream streams opening false is = absurd cc

-- the first stream isn't over
pub opens_first : (opening : ℕ) (first : Stream) (feeder : Feeder) (handover : Option Handover) (behind : List Parts) (items : List ListedFeeder) (feeds : OpenFeeds)
    → items ≡ record { feeder = feeder; handover = handover; handed = 0 } ∷ [] → StandsFor first (first_interval first.setup.times opening) feeder nothing_fed → HandsOver handover first (first_setup behind) → has_ended first opening ≡ false → OpensWith items behind opening feeds
    → (streams : List Stream) → AreOf streams behind → OpensFeeds opening first streams (Some feeds)
opens_first opening first feeder handover behind items feeds are stands hands lasts opens streams of =
    let it : ListedFeeder = record { feeder = feeder; handover = handover; handed = 0 } in
    let part = part_at opening first streams in
    let own : FeedsPart it part = record { made = nothing_fed; log_is = refl; stands = stands; handover = subst (λ (p : Option Parts). HandsOver handover first p) (of_first streams behind of) hands; handed = refl } in
    let parts : FeedParts items (part ∷ []) = subst (λ (fs : List ListedFeeder). FeedParts fs (part ∷ [])) (sym are) (own, tt) in
    let fed : streams_of items ≡ first ∷ [] = ap (λ (fs : List ListedFeeder). streams_of fs) are ∙ ap (λ (s : Stream). s ∷ []) stands.stream_is in
    let is_open = open_is opening feeds items behind (part ∷ []) (first ∷ []) streams opens parts fed of refl (ap not lasts) in
    let many : length feeds.later.items ≡ length streams = opens.many ∙ sym (of_length streams behind of) in
    let all : last_streams (length feeds.later.items) streams ≡ streams = last_all (length feeds.later.items) streams many in (
      opens.opening_is,
      ap (λ (ss : List Stream). streams_fed feeds.feeders ++ ss) all ∙ ap (λ (fs : List ListedFeeder). streams_of fs ++ streams) opens.feeders_are ∙ ap (λ (ss : List Stream). ss ++ streams) fed ∙ sym (on_where first streams opening (has_ended first opening) lasts),
      subst (λ (ss : List Stream). IsOpenFeed feeds ss) (sym all) is_open,
      subst (λ (ss : List Stream). OnlyFirst first ss) (sym (ap (λ (fs : List ListedFeeder). streams_of fs) opens.feeders_are ∙ fed)) refl,
    )

-- it is, and one behind isn't
pub opens_behind : (opening : ℕ) (first : Stream) (setups : List Parts) (items : List ListedFeeder) (feeds : OpenFeeds) → items ≡ [] → has_ended first opening ≡ true → (length setups ≡ 0 → ⊥) → OpensWith items setups opening feeds
    → (streams : List Stream) → AreOf (lasting opening streams) setups → OpensFeeds opening first streams (Some feeds)
opens_behind opening first setups items feeds none over some opens streams of =
    let left = lasting opening streams in
    let parts : FeedParts items [] = subst (λ (fs : List ListedFeeder). FeedParts fs []) (sym none) tt in
    let fed : streams_of items ≡ [] = ap (λ (fs : List ListedFeeder). streams_of fs) none in
    let many : length setups ≡ length left = sym (of_length left setups of) in
    let lasts : first_lasts opening left ≡ true = lasting_lasts opening streams (λ empty. some (many ∙ ap (λ (ss : List Stream). length ss) empty)) in
    let is_open = open_is opening feeds items setups [] [] left opens parts fed of refl lasts in
    let all : last_streams (length feeds.later.items) streams ≡ left = ap (λ (n : ℕ). last_streams n streams) (opens.many ∙ many) ∙ last_lasting opening streams in (
      opens.opening_is,
      ap (λ (ss : List Stream). streams_fed feeds.feeders ++ ss) all ∙ ap (λ (fs : List ListedFeeder). streams_of fs ++ left) opens.feeders_are ∙ ap (λ (ss : List Stream). ss ++ left) fed ∙ sym (over_where first streams opening (has_ended first opening) over),
      subst (λ (ss : List Stream). IsOpenFeed feeds ss) (sym all) is_open,
      subst (λ (ss : List Stream). OnlyFirst first ss) (sym (ap (λ (fs : List ListedFeeder). streams_of fs) opens.feeders_are ∙ fed)) tt,
    )

empty_is : (streams : List Stream) → length streams ≡ 0 → streams ≡ []
empty_is [] none = refl
empty_is (stream ∷ streams) none = absurd (omega (arith, none))

-- all are
pub opens_none : (opening : ℕ) (first : Stream) (setups : List Parts) → has_ended first opening ≡ true → length setups ≡ 0 → (streams : List Stream) → AreOf (lasting opening streams) setups → OpensFeeds opening first streams None
opens_none opening first setups over none streams of = over_where first streams opening (has_ended first opening) over ∙ empty_is (lasting opening streams) (of_length (lasting opening streams) setups of ∙ none)
