-- When a follower tells what is told where every epoch stays open.
use Rattle.std.specs.Prelude.{◌≡◌, ◌≤◌, ℕ, Bool, true, false, List, [], length, map, Option, Some, None}
use Rattle.std.specs.List.{AllByRecursion}
use Rattle.tesla_base.specs.declared.release.Head.{Head}
use Rattle.tesla_fitting.specs.declared.config.Config.{Config}
use Rattle.tesla_receiver.specs.Entries.{Arrival}
use Rattle.tesla_receiver.specs.declared.history.Entry.TheVariants.{Arrived, Taken, Ended}
use Rattle.tesla_rollover.specs.Epochs.{IsRollLegal}
use Rattle.tesla_rollover.specs.Events.{roll_after_events}
use Rattle.tesla_rollover.specs.History.{RollEntry, RollArrived, RollEnded, RollTaken, configs_in}
use Rattle.tesla_rollover.specs.Replies.{Gives, IsEmpty, IsOver, RollReply, reply_in}
use Rattle.tesla_rollover.specs.Stands.{histories_in}
use Rattle.tesla_rollover.specs.declared.answers.Next.{Next}
use Rattle.tesla_rollover.specs.declared.answers.Next.TheVariants as nexts
use Rattle.tesla_follow.specs.Followed.{config_of, head_at, history_of, most_open}
use Rattle.tesla_follow.specs.History.{FollowEntry, IsFollowed, event_of, followed}
use Rattle.tesla_follow.specs.declared.answers.FollowNext.{FollowNext}
use Rattle.tesla_follow.specs.declared.answers.FollowNext.TheVariants.{Plain, Old, EpochsSpent, BadSetup, EqualCommitments, UsedStream, Opened}
use Rattle.tesla_follow.specs.declared.answers.FollowReply.TheVariants.{Released, Early, Empty, Over}

-- ---- the history where every epoch stays open

-- that of the same events, where there is memory for each epoch
abbrev pub rolled : Config → List FollowEntry → List RollEntry
rolled cfg history = roll_after_events cfg [] (map event_of history)

-- ---- what both tell

-- a call with its answer, without what only one of the two histories tells
pub data Told : Type 0 where
  -- an arrival, with the epoch that it went to
  Came : (epoch : ℕ) (arrival : Arrival) → Told
  -- the packet of an epoch, with the position 0 in its head, and what its payload came to, where both have a word for it
  Gave : (releaser epoch : ℕ) (head : Head) (payload : List ℕ) (next : Option Next) → Told
  -- no epoch gave a packet, and every one is over, or not
  GaveNone : (releaser : ℕ) (over : Bool) → Told
  -- the end of an ingest
  Closed : (ingest : ℕ) → Told

abbrev pub next_shared : FollowNext → Option Next
next_shared Plain = Some nexts.Plain
next_shared (Old newest) = Some (nexts.Old newest)
next_shared EpochsSpent = Some nexts.EpochsSpent
next_shared (BadSetup line kind) = Some (nexts.BadSetup line kind)
next_shared (EqualCommitments chain) = None
next_shared (UsedStream stream) = Some (nexts.UsedStream stream)
next_shared Opened = Some nexts.Opened

-- what an entry of a follower tells
abbrev pub told_followed : FollowEntry → Told
told_followed (Arrived arrival) =
    Came arrival.verdict.epoch (record { ingest = arrival.ingest; reading = arrival.reading; bytes = arrival.bytes; verdict = arrival.verdict.verdict })
told_followed (Taken releaser (Released epoch head payload next)) = Gave releaser epoch (head_at 0 head) payload (next_shared next)
told_followed (Taken releaser (Early epoch head payload)) = Gave releaser epoch (head_at 0 head) payload None
told_followed (Taken releaser Empty) = GaveNone releaser false
told_followed (Taken releaser Over) = GaveNone releaser true
told_followed (Ended ingest) = Closed ingest

abbrev pub told_reply : ℕ → RollReply → Told
told_reply releaser (Gives epoch head payload next) = Gave releaser epoch (head_at 0 head) payload (Some next)
told_reply releaser IsEmpty = GaveNone releaser false
told_reply releaser IsOver = GaveNone releaser true

-- what an entry tells where every epoch stays open
abbrev pub told_rolled : RollEntry → Told
told_rolled (RollArrived epoch arrival) = Came epoch arrival
told_rolled (RollTaken releaser answers next) = told_reply releaser (reply_in (RollTaken releaser answers next))
told_rolled (RollEnded ingest) = Closed ingest

-- ---- where they tell the same

-- what a payload came to isn't that two commitments of its setup are equal
abbrev pub IsSharedNext : FollowNext → Type 0
IsSharedNext (EqualCommitments chain) = ⊥
IsSharedNext Plain = Unit {0}
IsSharedNext (Old newest) = Unit {0}
IsSharedNext EpochsSpent = Unit {0}
IsSharedNext (BadSetup line kind) = Unit {0}
IsSharedNext (UsedStream stream) = Unit {0}
IsSharedNext Opened = Unit {0}

-- an entry gives no message before its key, and refuses no setup for equal commitments
abbrev pub IsShared : FollowEntry → Type 0
IsShared (Taken releaser (Released epoch head payload next)) = IsSharedNext next
IsShared (Taken releaser (Early epoch head payload)) = ⊥
IsShared (Taken releaser Empty) = Unit {0}
IsShared (Taken releaser Over) = Unit {0}
IsShared (Arrived arrival) = Unit {0}
IsShared (Ended ingest) = Unit {0}

-- a followed history is, but for what only it tells, the history where every epoch stays open
pub record IsRolled (cfg : Config) (history : List FollowEntry) : Type 0 where
  -- there each answer is the one answer, so the laws of such histories hold of it
  pub legal : IsRollLegal cfg (rolled cfg history)
  -- each entry tells the same
  pub told : map told_followed history ≡ map told_rolled (rolled cfg history)
  -- the epochs have the same configurations, so there are as many, and the same histories of their receivers
  pub configs : map config_of (followed cfg history).epochs ≡ configs_in cfg (rolled cfg history)
  pub histories : map history_of (followed cfg history).epochs ≡ histories_in cfg.ingests (rolled cfg history)

-- so it is where as many epochs were opened as may be open at once, so that none was closed
abbrev pub FollowedIsRolled : Type 0
FollowedIsRolled =
    (cfg : Config) (history : List FollowEntry) → IsFollowed cfg history → length (followed cfg history).epochs ≤ most_open →
    AllByRecursion IsShared history → IsRolled cfg history
