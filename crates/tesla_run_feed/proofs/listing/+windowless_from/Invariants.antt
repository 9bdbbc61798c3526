use Rattle.std.proofs.Common.{length}
use Rattle.tesla_run_feed.proofs.listing.+windowless_from.Given as goal

abbrev pub decreases-windowless_from : goal.decreases-windowless_from
decreases-windowless_from l = length l.setups.now
