use Rattle.std.proofs.Common.{length}
use Rattle.tesla_chain.proofs.level.+set_out.Given as goal

abbrev pub decreases-set_out : goal.decreases-set_out
decreases-set_out l = length l.levels.now
