use Rattle.std.proofs.Common.{length}
use Rattle.tesla_follow.proofs.counting.+report_with.Given as goal

abbrev pub decreases-report_with : goal.decreases-report_with
decreases-report_with l = length l.epochs.now
