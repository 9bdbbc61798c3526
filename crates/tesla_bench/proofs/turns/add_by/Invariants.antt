use Rattle.std.proofs.Common.{◌≡◌}
use Rattle.tesla_bench.proofs.turns.add_by.Given as goal

abbrev pub invariant-loop : goal.invariant-loop
invariant-loop g l = l.pass.turn ≡ l.turn
