use Rattle.std.proofs.Common.{◌≡◌, ◌+◌}
use Rattle.tesla_prf.specs.Keys.{walk}
use Rattle.tesla_prf.proofs.keys.walk_back.Given as goal

abbrev pub invariant-loop : goal.invariant-loop
invariant-loop g l = record {
  walked : l.walked ≡ walk l.key l.counter;
  cost : l.steps ≡ l.fn.steps + l.counter;
}
