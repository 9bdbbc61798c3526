use Rattle.std.proofs.Common.{length}
use Rattle.tesla_feeds.proofs.stepping.+hand_over_on.Given as goal

abbrev pub decreases-hand_over_on : goal.decreases-hand_over_on
decreases-hand_over_on g l = length l.feeders.now
