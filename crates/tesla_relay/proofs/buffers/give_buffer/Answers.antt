use Rattle.tesla_relay.proofs.Balanced.{gives}
use Rattle.tesla_relay.proofs.buffers.give_buffer.Goals as goal

pub push_as-requires-clause-rule : goal.push_as-requires-clause-rule
push_as-requires-clause-rule g c = (gives _ _ _ _, λ items views h at. tt)
