use Rattle.std.proofs.Common.{length, take, ◌-◌, ◌≡◌, ◌≤◌}
use Rattle.tesla_desk.specs.Outside.{with_bytes}
use Rattle.tesla_desk.proofs.sink.write_all.Given as goal

abbrev pub invariant-loop-done : goal.invariant-loop-done
invariant-loop-done g l = record {
  fits : l.done ≤ length l.piece;
  written : g.S.Sink.written l.sink ≡ with_bytes (g.S.Sink.written l.initial.sink) (take l.done l.piece);
  faults : g.S.Sink.faults l.sink ≡ g.S.Sink.faults l.initial.sink;
  name : g.S.Sink.name l.sink ≡ g.S.Sink.name l.initial.sink;
}

abbrev pub decreases-loop-done : goal.decreases-loop-done
decreases-loop-done g l = length l.piece - l.done
