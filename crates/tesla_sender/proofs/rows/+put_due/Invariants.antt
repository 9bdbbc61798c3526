use Rattle.std.proofs.Common.{length}
use Rattle.tesla_sender.proofs.rows.+put_due.Given as goal

abbrev pub decreases-put_due : goal.decreases-put_due
decreases-put_due l = length l.chains.now
