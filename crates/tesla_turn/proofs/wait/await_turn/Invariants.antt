use Rattle.std.proofs.Common.{◌≡◌}
use Rattle.tesla_turn.specs.Steps.{IsSameSeat}
use Rattle.tesla_turn.proofs.wait.await_turn.Given as goal

abbrev pub invariant-loop : goal.invariant-loop
invariant-loop g l = IsSameSeat l.initial.seat l.seat × (l.seat.me ≡ l.initial.seat.me)
