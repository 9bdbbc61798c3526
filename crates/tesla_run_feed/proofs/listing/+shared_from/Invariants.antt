use Rattle.std.proofs.Common.{length, ◌-◌}
use Rattle.tesla_run_feed.proofs.listing.+shared_from.Given as goal

abbrev pub decreases-shared_from : goal.decreases-shared_from
decreases-shared_from l = length l.seeds.now - l.place
