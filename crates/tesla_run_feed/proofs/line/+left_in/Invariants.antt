use Rattle.std.proofs.Common.{length}
use Rattle.tesla_run_feed.proofs.line.+left_in.Given as goal

abbrev pub decreases-left_in : goal.decreases-left_in
decreases-left_in l = length l.schedules.now
