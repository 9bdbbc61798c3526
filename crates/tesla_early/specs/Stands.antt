-- What is kept of a history: what its receiver keeps, and the last promises.
use Rattle.std.specs.Prelude.{◌≡◌, ℕ, Bool, List, map}
use Rattle.tesla_early.specs.declared.promise.Promise.{Promise}
use Rattle.tesla_receiver.specs.Stands.{Stands}
use Rattle.tesla_receiver.specs.Entries.{Entry}
use Rattle.tesla_state.specs.State.{State}
use Rattle.tesla_early.specs.Early.{learnt}
use Rattle.tesla_early.specs.Learnt.{Learnt, last_of}

-- a promise that is kept, and whether it was used
pub record Kept : Type 0 where
  pub promise : Promise
  pub used : Bool

abbrev pub kept_of : Learnt → Kept
kept_of learnt = record { promise = learnt.promise; used = learnt.used }

-- what a contract sees of the promises that are kept
pub record PromiseState : Type 0 where
  -- how many are kept at most
  pub most : ℕ
  -- those that are kept, in the order in which they were learnt
  pub kept : List Kept
  -- how many entries its tables have room for, together
  pub reserved : ℕ

-- what a contract sees of a receiver that accepts promised messages early
pub record EarlyState : Type 0 where
  pub receiver : State
  pub promises : PromiseState

-- it stands for a history: its receiver does, and its promises are the last of those that were learnt in it
pub record EarlyStands (state : EarlyState) (history : List Entry) : Type 0 where
  pub receiver : Stands state.receiver history
  pub promises : state.promises.kept ≡ map kept_of (last_of state.promises.most (learnt state.promises.most history))
