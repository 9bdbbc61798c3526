use Rattle.std.proofs.Common.{length}
use Rattle.tesla_feed.proofs.posts.+hand.Given as goal

abbrev pub decreases-hand : goal.decreases-hand
decreases-hand g l = length l.posts.now
