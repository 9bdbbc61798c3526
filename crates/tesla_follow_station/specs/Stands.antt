-- A follower whose counts are read while it works.
use Rattle.std.specs.Prelude.{◌≡◌, ℕ, List}
use Rattle.tesla_counters.specs.Counts.{CountersId}
use Rattle.tesla_follow.specs.History.{FollowEntry}
use Rattle.tesla_follow.specs.Stands.{FollowStands, FollowState}
use Rattle.tesla_follow_station.specs.Counts.{counts_of}

-- what a contract sees of it: the follower, which counts these are, and how they stand
pub record CountedState : Type 0 where
  pub follower : FollowState
  pub counters : CountersId
  pub counts : List ℕ

-- it stands for a history: the follower does, and the counts are those of the history
pub record CountedStands (state : CountedState) (history : List FollowEntry) : Type 0 where
  pub stood : FollowStands state.follower history
  pub counted : state.counts ≡ counts_of state.follower.config history
