use Rattle.std.proofs.Common.{length}
use Rattle.tesla_relay.proofs.posts.+open_posts.Given as goal

abbrev pub decreases-open_posts : goal.decreases-open_posts
decreases-open_posts g l = length l.names.now
