-- What a follower keeps of a history.
use Rattle.std.specs.Prelude.{◌≡◌, ℕ, Bool, List, [], ◌∷◌, length, map, take, ◌==◌}
use Rattle.std.specs.List.{list_any, range_with_len}
use Rattle.tesla_base.specs.declared.names.StreamId.{StreamId}
use Rattle.tesla_early.specs.Early.{learnt}
use Rattle.tesla_early.specs.Learnt.{last_of}
use Rattle.tesla_early.specs.Stands.{PromiseState, kept_of}
use Rattle.tesla_fitting.specs.declared.config.Config.{Config}
use Rattle.tesla_receiver.specs.Stands.{Stands}
use Rattle.tesla_state.specs.State.{State}
use Rattle.tesla_state.specs.declared.report.Report.{Report}
use Rattle.tesla_follow.specs.Counted.{report_over}
use Rattle.tesla_follow.specs.Followed.{Accepted, Followed, FollowedEpoch, most_promises, oldest, open_epochs}
use Rattle.tesla_follow.specs.History.{FollowEntry, IsFollowed, followed}

-- what a contract sees of an open epoch
pub record EpochState : Type 0 where
  pub receiver : State
  pub promises : PromiseState

-- what a contract sees of a follower
pub record FollowState : Type 0 where
  -- the configuration of the epoch of the trusted setup; each later one has it with its own setup
  pub config : Config
  -- how many epochs were opened, and those that are open, from the oldest on
  pub opened : ℕ
  pub receiving : List EpochState
  -- the streams of the last 64 epochs that were closed, in order
  pub known : List StreamId
  -- the messages that were accepted and wait, and whether one of them is next
  pub queue : List Accepted
  pub turn : Bool
  -- which ingests have ended
  pub ended : List Bool
  pub records : ℕ
  pub early : ℕ
  pub unqueued : ℕ
  pub dropped : ℕ
  -- the counts of the epochs that were closed
  pub closed : Report
  pub calls : ℕ
  -- for how many entries all tables have room, together
  pub reserved : ℕ

-- the receiver stands for the epoch's history, and its promises are the last that are taught in it
pub record EpochStands (state : EpochState) (epoch : FollowedEpoch) : Type 0 where
  pub config : state.receiver.config ≡ epoch.config
  pub receiver : Stands state.receiver epoch.history
  pub most : state.promises.most ≡ most_promises
  pub promises : state.promises.kept ≡ map kept_of (last_of most_promises (learnt most_promises epoch.teaching))

abbrev pub EpochsStand : List EpochState → List FollowedEpoch → Type 0
EpochsStand [] [] = Unit {0}
EpochsStand (state ∷ states) (epoch ∷ epochs) = EpochStands state epoch × EpochsStand states epochs
EpochsStand _ _ = ⊥

abbrev pub stream_in : FollowedEpoch → StreamId
stream_in epoch = epoch.config.setup.stream

-- the epochs that were closed
abbrev pub closed_epochs : Followed → List FollowedEpoch
closed_epochs it = take (oldest it) it.epochs

-- what is kept is that of all that was made
pub record Keeps (state : FollowState) (it : Followed) : Type 0 where
  pub opened : state.opened ≡ length it.epochs
  pub receiving : EpochsStand state.receiving (open_epochs it)
  pub known : state.known ≡ map stream_in (last_of 64 (closed_epochs it))
  pub queue : state.queue ≡ it.queue
  pub turn : state.turn ≡ it.turn
  pub ended : state.ended ≡ map (λ (ingest : ℕ). list_any (λ (other : ℕ). other == ingest) it.ended) (range_with_len 0 state.config.ingests)
  pub records : state.records ≡ it.records
  pub early : state.early ≡ it.early
  pub unqueued : state.unqueued ≡ it.unqueued
  pub dropped : state.dropped ≡ it.dropped
  pub closed : state.closed ≡ report_over (closed_epochs it)

-- a follower stands for a history
pub record FollowStands (state : FollowState) (history : List FollowEntry) : Type 0 where
  pub legal : IsFollowed state.config history
  pub keeps : Keeps state (followed state.config history)
  pub calls : state.calls ≡ length history
