use Rattle.tesla_relay.proofs.Balanced.{takes}
use Rattle.tesla_relay.proofs.buffers.take_buffer.Goals as goal

pub pop_as-requires-clause-rule : goal.pop_as-requires-clause-rule
pop_as-requires-clause-rule g c = (takes _ _, λ items views h at. tt)
