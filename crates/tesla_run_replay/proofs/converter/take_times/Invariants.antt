use Rattle.std.proofs.Common.{◌≡◌, ◌+◌, ◌≤◌, List, ◌++◌, replicate}
use Rattle.tesla_capture.specs.Gathering.{gathered, Gathers}
use Rattle.tesla_receiver.specs.History.{Event, Takes}
use Rattle.tesla_state.specs.Releases.{each_after}
use Rattle.tesla_run_replay.proofs.converter.take_times.Given as goal

abbrev pub invariant-loop : goal.invariant-loop
invariant-loop g l = record {
  calls : g.T.Target.calls l.target ≤ g.T.Target.calls l.initial.target + l.counter;
  rule : g.T.Target.rule l.target ≡ g.T.Target.rule l.initial.target;
  faults : g.O.Sink.faults l.out ≡ g.O.Sink.faults l.initial.out;
  name : g.O.Sink.name l.out ≡ g.O.Sink.name l.initial.out;
  has : (es : List Event) → g.T.Target.has l.initial.target es → g.T.Target.has l.target (es ++ replicate l.counter (Takes 0));
  gathers : (es : List Event) → g.T.Target.has l.initial.target es → Gathers (g.O.Sink.written l.initial.out) (g.O.Sink.written l.out) (gathered l.gatherer) (gathered l.initial.gatherer ++ each_after (g.T.Target.rule l.initial.target).adds es (replicate l.counter (Takes 0)));
}
