use Rattle.std.proofs.Common.{length}
use Rattle.tesla_chain.proofs.opening.+leave_traveller.Given as goal

abbrev pub decreases-leave_traveller : goal.decreases-leave_traveller
decreases-leave_traveller l = length l.levels.now
