use Rattle.std.proofs.Common.{length}
use Rattle.tesla_chain.proofs.opening.+leave_mark.Given as goal

abbrev pub decreases-leave_mark : goal.decreases-leave_mark
decreases-leave_mark l = length l.levels.now
