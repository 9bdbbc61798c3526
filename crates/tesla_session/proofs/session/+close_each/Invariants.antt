use Rattle.std.proofs.Common.{vec_len}
use Rattle.tesla_session.proofs.session.+close_each.Given as goal

abbrev pub decreases-close_each : goal.decreases-close_each
decreases-close_each g l = vec_len l.workers.now
