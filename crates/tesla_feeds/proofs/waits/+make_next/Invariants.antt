use Rattle.std.proofs.Common.{length}
use Rattle.tesla_feeds.proofs.waits.+make_next.Given as goal

abbrev pub decreases-make_next : goal.decreases-make_next
decreases-make_next g l = length l.feeders.now
