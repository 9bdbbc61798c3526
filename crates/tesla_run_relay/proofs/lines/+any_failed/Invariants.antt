use Rattle.std.proofs.Common.{◌-◌}
use Rattle.tesla_run_relay.proofs.lines.+any_failed.Given as goal

abbrev pub decreases-any_failed : goal.decreases-any_failed
decreases-any_failed l = l.posts - l.k
