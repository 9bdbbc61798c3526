use Rattle.std.proofs.Common.{◌-◌}
use Rattle.tesla_run_info.proofs.info.lines.+add_chains.Given as goal

abbrev pub decreases-add_chains : goal.decreases-add_chains
decreases-add_chains l = l.count - l.chain
