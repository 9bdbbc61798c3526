use Rattle.tesla_feed.specs.Steps.{Misses}
use Rattle.tesla_feed.proofs.opening.first_reading.Given as goal

abbrev pub invariant-loop : goal.invariant-loop
invariant-loop g l = Misses (g.C.Clock.told l.initial.clock) (g.C.Clock.told l.clock)
