use Rattle.std.proofs.Common.{◌≡◌}
use Rattle.tesla_run_receive.specs.watch.Lines.{columns_of}
use Rattle.tesla_run_receive.specs.watch.Written.{NotesMore}
use Rattle.tesla_run_follow.proofs.monitor.Monitor.watch.Given as goal

abbrev pub invariant-loop : goal.invariant-loop
invariant-loop g l = record {
  notes : NotesMore (columns_of l.initial.self.writer.chains l.initial.self.writer.names.now) l.initial.self.reader.counts (g.S.Output.written l.initial.self.writer.status.sink) (g.S.Output.faults l.initial.self.writer.status.sink) l.initial.self.writer.status.failed
      (columns_of l.self.writer.chains l.self.writer.names.now) l.self.reader.counts (g.S.Output.written l.self.writer.status.sink) (g.S.Output.faults l.self.writer.status.sink) l.self.writer.status.failed;
  name : g.S.Output.name l.self.writer.status.sink ≡ g.S.Output.name l.initial.self.writer.status.sink;
  counters : l.self.reader.counters ≡ l.initial.self.reader.counters;
  columns : columns_of l.self.writer.chains l.self.writer.names.now ≡ columns_of l.initial.self.writer.chains l.initial.self.writer.names.now;
}
