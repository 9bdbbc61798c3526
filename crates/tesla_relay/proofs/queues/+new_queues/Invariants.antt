use Rattle.std.proofs.Common.{length}
use Rattle.tesla_relay.proofs.queues.+new_queues.Given as goal

abbrev pub decreases-new_queues : goal.decreases-new_queues
decreases-new_queues g l = length l.sides.now
