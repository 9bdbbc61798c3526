use Rattle.tesla_relay.proofs.Moves.{offers}
use Rattle.tesla_relay.proofs.line.length_of.Goals as goal

pub len_as-requires-clause-rule : goal.len_as-requires-clause-rule
len_as-requires-clause-rule g c = offers _ _ _ c.requires.puts
