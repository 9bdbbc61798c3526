use Rattle.std.proofs.Common.{refl}
use Rattle.tesla_relay.proofs.Balanced.{forks}
use Rattle.tesla_relay.proofs.buffers.new_buffers.Goals as goal

pub ruled-requires-clause-rule : goal.ruled-requires-clause-rule
ruled-requires-clause-rule c = refl

pub another-second-requires-clause-rule : goal.another-second-requires-clause-rule
another-second-requires-clause-rule c = forks _ _
