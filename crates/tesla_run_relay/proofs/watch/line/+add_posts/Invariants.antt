use Rattle.std.proofs.Common.{length}
use Rattle.tesla_run_relay.proofs.watch.line.+add_posts.Given as goal

abbrev pub decreases-add_posts : goal.decreases-add_posts
decreases-add_posts l = length l.counts.now
