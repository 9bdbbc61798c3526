use Rattle.std.proofs.Common.{length}
use Rattle.tesla_sender.proofs.rows.+any_due.Given as goal

abbrev pub decreases-any_due : goal.decreases-any_due
decreases-any_due l = length l.chains.now
