use Rattle.std.proofs.Common.{length}
use Rattle.tesla_chain.proofs.level.+pass.Given as goal

abbrev pub decreases-pass : goal.decreases-pass
decreases-pass g l = length l.levels.now
