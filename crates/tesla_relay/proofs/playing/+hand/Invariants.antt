use Rattle.std.proofs.Common.{length}
use Rattle.tesla_relay.proofs.playing.+hand.Given as goal

abbrev pub decreases-hand : goal.decreases-hand
decreases-hand g l = length l.posts.now
