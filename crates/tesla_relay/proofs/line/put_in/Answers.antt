use Rattle.std.proofs.Common.{ap}
use Rattle.tesla_relay.proofs.Moves.{sends, offers}
use Rattle.tesla_relay.proofs.line.put_in.Goals as goal

pub push_as-requires-clause-rule : goal.push_as-requires-clause-rule
push_as-requires-clause-rule g c = (sends _ _ _ _ _ c.requires.brought.0 (ap (λ v. v.puts) c.requires.puts.1) c.requires.brought.1 c.requires.brought.2, offers _ _ _ (ap (λ v. v.puts) c.requires.puts.1))
