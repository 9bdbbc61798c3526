use Rattle.std.proofs.Common.{length}
use Rattle.tesla_feeds.proofs.waits.+are_past.Given as goal

abbrev pub decreases-are_past : goal.decreases-are_past
decreases-are_past l = length l.feeders.now
