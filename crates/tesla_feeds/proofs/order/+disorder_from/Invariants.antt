use Rattle.std.proofs.Common.{length}
use Rattle.tesla_feeds.proofs.order.+disorder_from.Given as goal

abbrev pub decreases-disorder_from : goal.decreases-disorder_from
decreases-disorder_from l = length l.setups.now
