use Rattle.std.proofs.Common.{length}
use Rattle.tesla_feeds.proofs.waits.+until_next.Given as goal

abbrev pub decreases-until_next : goal.decreases-until_next
decreases-until_next l = length l.feeders.now
