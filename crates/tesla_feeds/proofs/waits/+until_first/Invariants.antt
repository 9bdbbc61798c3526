use Rattle.std.proofs.Common.{length}
use Rattle.tesla_feeds.proofs.waits.+until_first.Given as goal

abbrev pub decreases-until_first : goal.decreases-until_first
decreases-until_first l = length l.feeders.now
