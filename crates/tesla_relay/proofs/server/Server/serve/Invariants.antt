use Rattle.tesla_relay.specs.Feeding.{ServesOn}
use Rattle.tesla_relay.proofs.server.Server.serve.Given as goal

abbrev pub invariant-loop : goal.invariant-loop
invariant-loop g l = ServesOn l.initial.self l.self
