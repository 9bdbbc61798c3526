use Rattle.std.proofs.Common.{◌-◌}
use Rattle.tesla_run_relay.proofs.watch.monitor.+add_numbers.Given as goal

abbrev pub decreases-add_numbers : goal.decreases-add_numbers
decreases-add_numbers l = l.posts - l.k
