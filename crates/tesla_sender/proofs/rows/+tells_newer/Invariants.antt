use Rattle.std.proofs.Common.{length}
use Rattle.tesla_sender.proofs.rows.+tells_newer.Given as goal

abbrev pub decreases-tells_newer : goal.decreases-tells_newer
decreases-tells_newer l = length l.chains.now
