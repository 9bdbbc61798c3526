use Rattle.std.proofs.Common.{length}
use Rattle.tesla_feeds.proofs.waits.+has_begun.Given as goal

abbrev pub decreases-has_begun : goal.decreases-has_begun
decreases-has_begun l = length l.feeders.now
