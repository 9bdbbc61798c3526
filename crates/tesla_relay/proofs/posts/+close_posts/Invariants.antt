use Rattle.std.proofs.Common.{vec_len}
use Rattle.tesla_relay.proofs.posts.+close_posts.Given as goal

abbrev pub decreases-close_posts : goal.decreases-close_posts
decreases-close_posts g l = vec_len l.posts.now
