use Rattle.tesla_turn.specs.Held.{OnlyCalls}
use Rattle.tesla_shared_tests.proofs.tests.turns.follow.Given as goal

abbrev pub invariant-loop-round : goal.invariant-loop-round
invariant-loop-round g l = OnlyCalls l.initial.pass l.pass
