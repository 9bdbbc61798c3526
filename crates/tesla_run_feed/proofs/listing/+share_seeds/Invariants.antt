use Rattle.std.proofs.Common.{length}
use Rattle.tesla_run_feed.proofs.listing.+share_seeds.Given as goal

abbrev pub decreases-share_seeds : goal.decreases-share_seeds
decreases-share_seeds l = length l.seeds.now
