use Rattle.std.proofs.Common.{◌≡◌}
use Rattle.tesla_sinks_live.proofs.sink.LiveSink.ask_on.Given as goal

abbrev pub invariant-loop : goal.invariant-loop
invariant-loop g l = record {
  name : l.self.name ≡ l.initial.self.name;
  faults : l.self.faults ≡ l.initial.self.faults;
}
