use Rattle.std.proofs.Common.{length}
use Rattle.tesla_chain.proofs.skipping.+hand_down.Given as goal

abbrev pub decreases-hand_down : goal.decreases-hand_down
decreases-hand_down l = length l.levels.now
