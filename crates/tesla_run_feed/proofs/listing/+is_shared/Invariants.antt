use Rattle.std.proofs.Common.{length}
use Rattle.tesla_run_feed.proofs.listing.+is_shared.Given as goal

abbrev pub decreases-is_shared : goal.decreases-is_shared
decreases-is_shared l = length l.before.now
