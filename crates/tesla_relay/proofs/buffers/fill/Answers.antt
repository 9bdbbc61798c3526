use Rattle.tesla_relay.proofs.Balanced.{gives}
use Rattle.tesla_relay.proofs.buffers.fill.Goals as goal

pub try_push_as-requires-clause-rule : goal.try_push_as-requires-clause-rule
try_push_as-requires-clause-rule c = gives _ _ _ _
