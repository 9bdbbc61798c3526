-- What a feed over a list takes of link and clock, and what each post sends.
use Rattle.std.specs.Prelude.{◌≡◌, ◌⊎◌, ℕ, Bool, true, false, List, [], ◌∷◌, ◌++◌, map, Option, IfSome}
use Rattle.std.specs.List.{AllByRecursion, list_all, list_any}
use Rattle.tesla_desk.specs.Clocks.{Gives, Ticking}
use Rattle.tesla_desk.specs.Links.{after_letters}
use Rattle.tesla_desk.specs.declared.link.Letter.{Letter}
use Rattle.tesla_relay.specs.Posts.{PostSeen}
use Rattle.tesla_sender.specs.Made.{Stream}
use Rattle.tesla_feed.specs.Fed.{Event, Rested, reading_of}
use Rattle.tesla_feed.specs.Feed.{Heard, SendPosts, events_of, has_failed, letter_of, received_of, rested_at}
use Rattle.tesla_feeds.specs.Fed.{Fed, after_event, fed_all}
use Rattle.tesla_feeds.specs.Later.{AreLost, are_right_where_used, letters_in}
use Rattle.tesla_feeds.specs.Notes.{Note, all_counts, notes_of}
use Rattle.tesla_feeds.specs.Opening.{opened_at, some_begun}
use Rattle.tesla_feeds.specs.Waits.{are_told}
use Rattle.tesla_feeds.specs.declared.feeding.FeedsEnd.{FeedsEnd}

-- before each of these rests a key of a message or handover of some stream was still to be told
abbrev pub AreNeeded : Fed → List ℕ → Type 0
AreNeeded fed [] = Unit {0}
AreNeeded fed (reading ∷ rests) = (are_told fed.parts ≡ false) × AreNeeded (after_event fed (Rested reading)) rests

-- what the feed over a list, told which seeds are right, that was opened at this reading comes to, over a link that has this left before and that afterwards, with a clock that told this before and that afterwards, and posts that are seen so before and so now; it was told this of its counts
pub record Feeds (right : Stream → Bool) (streams : List Stream) (opening : ℕ) (result : FeedsEnd) (left later : Option (List Letter)) (before after : Option Ticking) (posts posts_now : List PostSeen) (was_told : List Note → Type 0) : Type 0 where
  -- the readings behind the opening: those before the first interval of any stream had begun, the first one then, and one for each event
  pub early : List ℕ
  pub begun : ℕ
  pub heard : List Heard
  pub rests : List ℕ
  -- where the sender of a stream was lacking, at most one event more, of which nothing was made
  pub lost : List Event
  pub gives : Gives (early ++ begun ∷ map reading_of (events_of heard rests ++ lost)) before after
  pub lost_is : AreLost result.lacking streams opening lost
  pub waits : AllByRecursion (λ reading. some_begun streams opening reading ≡ false) early
  pub begins : some_begun streams opening begun ≡ true
  -- the items left the link, in order
  pub left_is : left ≡ after_letters (map letter_of heard ++ letters_in lost) later
  -- what was made, and what the posts sent of it
  pub made : Fed
  pub made_is : made ≡ fed_all streams opening (events_of heard rests)
  pub failed : List Bool
  pub posts_are : SendPosts made.frames posts posts_now failed
  -- of the streams of which something was made the seeds are right
  pub used : are_right_where_used right made ≡ true
  -- why it rested, and why it ended: all posts failed, an event was lost, or the keys of all messages and handovers were disclosed after the end or the failure of the link or where a sender was lacking
  pub needed : AreNeeded (fed_all streams opening (map received_of heard)) rests
  pub keys_disclosed : list_all has_failed failed ≡ false → lost ≡ [] → are_told made.parts ≡ true
  pub ended : list_all has_failed failed ≡ false → result.link_failed ≡ false → result.lacking ≡ false → IfSome later (λ rest. rest ≡ [])
  -- what was told while it ran: each reading but the first one of the first interval, with the counts by then. Before that interval nothing is made
  pub noted : was_told (notes_of streams opening (map rested_at early ++ events_of heard rests))
  -- what it tells
  pub counts : result.counts ≡ all_counts made
  pub some_failed : result.post_failed ≡ list_any has_failed failed

-- a feed that was opened at this reading was asked to end before the first interval of any stream had begun: nothing was made, and the link and the posts are as before
pub record StopsEarly (over : Bool) (streams : List Stream) (opening : ℕ) (result : FeedsEnd) (left later : Option (List Letter)) (before after : Option Ticking) (posts posts_now : List PostSeen) (was_told : List Note → Type 0) : Type 0 where
  -- the gate told so
  pub asked : over ≡ true
  -- the readings behind the opening, at each of which no such interval had begun
  pub early : List ℕ
  pub gives : Gives early before after
  pub waits : AllByRecursion (λ reading. some_begun streams opening reading ≡ false) early
  pub left_is : later ≡ left
  pub posts_are : posts_now ≡ posts
  -- what was told while it waited, and what it tells
  pub noted : was_told (notes_of streams opening (map rested_at early))
  pub result_is : result ≡ record { link_failed = false; post_failed = false; lacking = false; counts = all_counts (opened_at opening streams) }

-- what a feed comes to, told whether its gate may tell that the run was asked to end
abbrev pub ComesTo : (Stream → Bool) → Bool → List Stream → ℕ → FeedsEnd → Option (List Letter) → Option (List Letter) → Option Ticking → Option Ticking → List PostSeen → List PostSeen → (List Note → Type 0) → Type 0
ComesTo right over streams opening result left later before after posts posts_now was_told =
    Feeds right streams opening result left later before after posts posts_now was_told
    ⊎ StopsEarly over streams opening result left later before after posts posts_now was_told
