use Rattle.std.proofs.Common.{rules}
use Rattle.tesla_relay.proofs.Moves.{begins, forks}
use Rattle.tesla_relay.proofs.line.new_line.Goals as goal

pub ruled-requires-clause-rule : goal.ruled-requires-clause-rule
ruled-requires-clause-rule g c = begins _

pub another-popped-requires-clause-rule : goal.another-popped-requires-clause-rule
another-popped-requires-clause-rule g c = forks _ _ _ (search rules) (search rules)
