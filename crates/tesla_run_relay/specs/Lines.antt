-- The lines that tell what a relay came to.
use Rattle.std.specs.Prelude.{ℕ, suc, Bool, true, false, List, [], ◌∷◌, ◌++◌, codes, decimal}
use Rattle.tesla_front.specs.OutcomeView.{OutcomeView, Done, Failed}
use Rattle.tesla_front.specs.declared.fault.Fault.TheVariants as faults
use Rattle.tesla_relay.specs.declared.relayed.PostCount.{PostCount}
use Rattle.tesla_relay.specs.declared.relayed.RelayEnd.{RelayEnd}
use Rattle.tesla_relay.specs.declared.relayed.RelayEnd.TheVariants as ends

-- the line of a post of this number, counted from 0
abbrev pub post_line : ℕ → PostCount → List ℕ
post_line number count =
    codes "post " ++ decimal number ++ codes " sent " ++ decimal count.sent ++ codes " dropped " ++ decimal count.dropped ++ codes "\n"

-- the lines of posts, numbered from the first argument on
abbrev pub lines_from : ℕ → List PostCount → List ℕ
lines_from number [] = []
lines_from number (count ∷ counts) = post_line number count ++ lines_from (suc number) counts

-- the post failed
abbrev pub has_failed : PostCount → Bool
has_failed count = count.failed

-- where the link came to its end, told whether a write failed: the lines, or the failure
abbrev pub outcome_of_posts : Bool → List PostCount → OutcomeView
outcome_of_posts true counts = Failed faults.Write
outcome_of_posts false counts = Done (lines_from 0 counts)

-- what a relay came to, told whether a write failed: a failed link, else a failed write, else the lines
abbrev pub outcome_with : RelayEnd → Bool → List PostCount → OutcomeView
outcome_with ends.Failed failed counts = Failed faults.Read
outcome_with ends.Ended failed counts = outcome_of_posts failed counts
