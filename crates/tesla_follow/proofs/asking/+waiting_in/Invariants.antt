use Rattle.std.proofs.Common.{length}
use Rattle.tesla_follow.proofs.asking.+waiting_in.Given as goal

abbrev pub decreases-waiting_in : goal.decreases-waiting_in
decreases-waiting_in l = length l.epochs.now
