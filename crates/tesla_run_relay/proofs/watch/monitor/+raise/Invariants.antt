use Rattle.std.proofs.Common.{length}
use Rattle.tesla_run_relay.proofs.watch.monitor.+raise.Given as goal

abbrev pub decreases-raise : goal.decreases-raise
decreases-raise l = length l.told.now
