use Rattle.std.proofs.Common.{◌≡◌, ℕ}
use Rattle.tesla_run_relay.specs.watch.Written.{HasTold}
use Rattle.tesla_run_relay.proofs.watch.monitor.Monitor.watch.Given as goal

abbrev pub invariant-loop : goal.invariant-loop
invariant-loop g l = record {
  told : (posts : ℕ) → HasTold posts l.initial.self.told.items (g.S.Output.written l.initial.self.status.sink) (g.S.Output.faults l.initial.self.status.sink) l.initial.self.status.failed
      → HasTold posts l.self.told.items (g.S.Output.written l.self.status.sink) (g.S.Output.faults l.self.status.sink) l.self.status.failed;
  name : g.S.Output.name l.self.status.sink ≡ g.S.Output.name l.initial.self.status.sink;
}
