use Rattle.std.proofs.Common.{length}
use Rattle.tesla_run_relay.proofs.watch.monitor.+add_tallies.Given as goal

abbrev pub decreases-add_tallies : goal.decreases-add_tallies
decreases-add_tallies g l = length l.sides.now
