use Rattle.std.proofs.Common.{length}
use Rattle.tesla_run_info.proofs.info.calendar.+months_in.Given as goal

abbrev pub decreases-months_in : goal.decreases-months_in
decreases-months_in l = length l.lengths.now
