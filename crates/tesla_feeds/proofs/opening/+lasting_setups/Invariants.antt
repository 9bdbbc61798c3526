use Rattle.std.proofs.Common.{length}
use Rattle.tesla_feeds.proofs.opening.+lasting_setups.Given as goal

abbrev pub decreases-lasting_setups : goal.decreases-lasting_setups
decreases-lasting_setups l = length l.setups.now
