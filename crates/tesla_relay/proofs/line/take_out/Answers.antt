use Rattle.std.proofs.Common.{ap}
use Rattle.tesla_relay.proofs.Moves.{gets}
use Rattle.tesla_relay.proofs.line.take_out.Goals as goal

pub try_pop_as-requires-clause-rule : goal.try_pop_as-requires-clause-rule
try_pop_as-requires-clause-rule g c = gets _ _ _ (ap (λ v. v.pops) c.requires.pops.1)
