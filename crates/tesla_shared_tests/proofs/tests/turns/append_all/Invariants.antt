use Rattle.std.proofs.Common.{◌≡◌, ◌+◌, length}
use Rattle.tesla_turn.specs.Held.{OnlyCalls}
use Rattle.tesla_shared_tests.proofs.tests.turns.append_all.Given as goal

abbrev pub invariant-loop-i : goal.invariant-loop-i
invariant-loop-i g l = OnlyCalls l.initial.pass l.pass × (length l.pass.made ≡ length l.initial.pass.made + l.i)
