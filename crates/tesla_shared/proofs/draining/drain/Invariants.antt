use Rattle.std.proofs.Common.{◌≡◌}
use Rattle.tesla_turn.specs.Held.{OnlyCalls}
use Rattle.tesla_shared.specs.declared.draining.SinkEnd.TheVariants as ends
use Rattle.tesla_shared.specs.Workers.{Drains}
use Rattle.tesla_shared.proofs.draining.drain.Given as goal

abbrev pub invariant-loop : goal.invariant-loop
invariant-loop g l = record {
  releaser : l.act.releaser ≡ l.number;
  calls : OnlyCalls l.initial.pass l.pass;
  drains : Drains g.V.Station.yields l.number ends.Spent l.initial.pass.made l.pass.made (g.S.Output.written l.initial.sink) (g.S.Output.written l.sink);
  faults : g.S.Output.faults l.sink ≡ g.S.Output.faults l.initial.sink;
  name : g.S.Output.name l.sink ≡ g.S.Output.name l.initial.sink;
}
