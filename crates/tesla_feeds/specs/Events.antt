-- What one event of a feed comes to.
use Rattle.std.specs.Prelude.{◌≡◌, ℕ, Bool, true, false, List, [], ◌++◌, Option, Some, None, Result, Ok, Err, if◌then◌else◌}
use Rattle.tesla_relay.specs.Counts.{counted}
use Rattle.tesla_relay.specs.Posts.{PostSeen}
use Rattle.tesla_sender.specs.declared.refusal.SendRefusal.{SendRefusal}
use Rattle.tesla_feed.specs.Fed.{counts_of, is_unread}
use Rattle.tesla_feed.specs.Steps.{after_refusal, one_more}
use Rattle.tesla_feed.specs.declared.counts.FeedCounts.{FeedCounts}
use Rattle.tesla_feeds.specs.Fed.{Fed, after_handover, after_message, disclosed, done_each, done_on, handed_over, said}
use Rattle.tesla_feeds.specs.Steps.{FeedParts, MaySendOn, SendOn}
use Rattle.tesla_feeds.specs.declared.events.Feeders.{Feeders}
use Rattle.tesla_feeds.specs.declared.events.FeedsCounts.{FeedsCounts}
use Rattle.tesla_feeds.specs.declared.listed.ListedFeeder.{ListedFeeder}

-- the counts after a message that was sent, or refused, or none
abbrev pub after_said : FeedCounts → Result Bool SendRefusal → FeedCounts
after_said counts (Ok true) = record counts { messages = one_more counts.messages }
after_said counts (Ok false) = counts
after_said counts (Err refusal) = after_refusal counts refusal

-- the frames of each stage of an event
abbrev pub frames_handed : ℕ → Fed → List (List ℕ)
frames_handed reading fed = (done_on (handed_over reading) reading fed.parts).frames

abbrev pub frames_said : ℕ → Option (List ℕ) → Fed → List (List ℕ)
frames_said reading None fed = []
frames_said reading (Some payload) fed = (done_on (said reading payload) reading fed.parts).frames

abbrev pub frames_told : ℕ → Fed → List (List ℕ)
frames_told reading fed = (done_each (disclosed reading) fed.parts).frames

-- those of an event while the clock can be read, and of any
abbrev pub frames_behind : ℕ → Option (List ℕ) → Fed → List (List ℕ)
frames_behind reading payload fed = frames_said reading payload fed ++ frames_told reading (after_message reading payload fed)

abbrev pub frames_read : ℕ → Option (List ℕ) → Fed → List (List ℕ)
frames_read reading payload fed = frames_handed reading fed ++ frames_behind reading payload (after_handover reading fed)

abbrev pub frames_item : ℕ → Option (List ℕ) → Fed → List (List ℕ)
frames_item reading payload fed = if is_unread reading then [] else frames_read reading payload fed

-- feeders with these counts stand for what was made
pub record FeedAll (feeders : List ListedFeeder) (counts : FeedsCounts) (fed : Fed) : Type 0 where
  pub parts : FeedParts feeders fed.parts
  pub feed : counts.feed ≡ counts_of fed.whole
  pub handovers : counts.handovers ≡ counted fed.handovers

abbrev pub FeedsAll : Feeders → Fed → Type 0
FeedsAll now fed = FeedAll now.feeders.items now.counts fed

-- they stand for this, and these frames were sent
pub record TakeAll (after : Fed) (frames : List (List ℕ)) (feeders : List ListedFeeder) (counts : FeedsCounts)
    (posts posts_now : List PostSeen) (failed failed_now : List Bool) : Type 0 where
  pub stands : FeedAll feeders counts after
  pub sends : SendOn frames posts posts_now failed failed_now

abbrev pub TakesAll : Fed → List (List ℕ) → Feeders → List PostSeen → List PostSeen → List Bool → List Bool → Type 0
TakesAll after frames now posts posts_now failed failed_now = TakeAll after frames now.feeders.items now.counts posts posts_now failed failed_now

-- they stand for what was made, and the frames of a stage of it may be sent
pub record MayStage {P : Type 0} (seen : P → PostSeen) (may_send : P → List ℕ → Bool) (feeders : Feeders)
    (frames : Fed → List (List ℕ)) (posts : List P) (failed : List Bool) : Type 0 where
  pub fed : Fed
  pub stands : FeedsAll feeders fed
  pub may : MaySendOn seen may_send (frames fed) posts failed
