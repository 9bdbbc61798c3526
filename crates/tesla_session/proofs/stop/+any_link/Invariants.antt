use Rattle.std.proofs.Common.{length}
use Rattle.tesla_session.proofs.stop.+any_link.Given as goal

abbrev pub decreases-any_link : goal.decreases-any_link
decreases-any_link g l = length l.workers.now
