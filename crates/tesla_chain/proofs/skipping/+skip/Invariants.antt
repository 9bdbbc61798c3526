use Rattle.std.proofs.Common.{length}
use Rattle.tesla_chain.proofs.skipping.+skip.Given as goal

abbrev pub decreases-skip : goal.decreases-skip
decreases-skip g l = length l.levels.now
