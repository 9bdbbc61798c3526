use Rattle.std.proofs.Common.{length}
use Rattle.tesla_sender.proofs.rows.+tells_all.Given as goal

abbrev pub decreases-tells_all : goal.decreases-tells_all
decreases-tells_all l = length l.chains.now
