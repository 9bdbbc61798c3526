use Rattle.std.proofs.Common.{length}
use Rattle.tesla_feeds.proofs.later.+has_later_begun.Given as goal

abbrev pub decreases-has_later_begun : goal.decreases-has_later_begun
decreases-has_later_begun l = length l.later.now
