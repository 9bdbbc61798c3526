use Rattle.std.proofs.Common.{length}
use Rattle.tesla_session.proofs.stop.+any_sink.Given as goal

abbrev pub decreases-any_sink : goal.decreases-any_sink
decreases-any_sink g l = length l.workers.now
