use Rattle.std.proofs.Common.{length}
use Rattle.tesla_feeds.proofs.order.+same_number.Given as goal

abbrev pub decreases-same_number : goal.decreases-same_number
decreases-same_number l = length l.setups.now
