use Rattle.std.proofs.Common.{length}
use Rattle.tesla_follow.proofs.asking.+ask.Given as goal

abbrev pub decreases-ask : goal.decreases-ask
decreases-ask l = length l.epochs.now
