use Rattle.tesla_turn.specs.Held.{OnlyCalls}
use Rattle.tesla_shared_tests.proofs.tests.turns.lead.Given as goal

abbrev pub invariant-loop : goal.invariant-loop
invariant-loop g l = OnlyCalls l.initial.pass l.pass
