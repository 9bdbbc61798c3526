use Rattle.std.proofs.Common.{◌-◌, length}
use Rattle.tesla_sender.proofs.namer.+rows_due.Given as goal

abbrev pub decreases-rows_due : goal.decreases-rows_due
decreases-rows_due l = length l.setup.now.rows - l.chain
