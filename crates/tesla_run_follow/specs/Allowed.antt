-- What follow may write while it runs, whether or not it ends.
use Rattle.std.specs.Prelude.{ℕ, Bool, List, Option}
use Rattle.tesla_desk.specs.Outside.{Told}
use Rattle.tesla_run_follow.specs.Follow.{of_follower}
use Rattle.tesla_run_follow.specs.Status.{follow_columns}
use Rattle.tesla_run_receive.specs.Allowed.{MayWriteReleasedOf}
use Rattle.tesla_run_receive.specs.Arguments.{ReceiveArguments}
use Rattle.tesla_run_receive.specs.OutputArguments.{OutputArguments}
use Rattle.tesla_run_receive.specs.watch.Allowed.{MayWriteLinesOf}

module _ {S : Type 0} (name : S → List ℕ) (written : S → Option (List ℕ)) (may_write : S → List ℕ → Bool) where
  -- each sink may write the record of an answer that is due to it
  abbrev pub MayWriteFollowed : (ℕ → List ℕ → ℕ → Bool) → ReceiveArguments → Told → Type 0
  MayWriteFollowed read_for arguments told = MayWriteReleasedOf of_follower name written may_write read_for arguments told

  -- STATUS may be given each line that comes next
  abbrev pub MayWriteCounts : (ℕ → Bool) → OutputArguments → Type 0
  MayWriteCounts gave arguments = MayWriteLinesOf name written may_write gave follow_columns arguments.output
