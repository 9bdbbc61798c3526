use Rattle.std.proofs.Common.{◌-◌}
use Rattle.tesla_run_relay.proofs.lines.+add_posts.Given as goal

abbrev pub decreases-add_posts : goal.decreases-add_posts
decreases-add_posts l = l.posts - l.k
