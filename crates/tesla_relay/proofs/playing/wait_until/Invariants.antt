use Rattle.tesla_relay.specs.Steps.{Awaits}
use Rattle.tesla_relay.proofs.playing.wait_until.Given as goal

abbrev pub invariant-loop : goal.invariant-loop
invariant-loop g l = Awaits l.reading (g.C.Clock.told l.initial.clock) (g.C.Clock.told l.clock)
