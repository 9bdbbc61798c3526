use Rattle.std.proofs.Common.{◌≡◌, ◌≤◌, ◌++◌, drop, length}
use Rattle.std.specs.List.{flat_map}
use Rattle.tesla_capture.specs.Gathering.{gathered}
use Rattle.tesla_capture.specs.Script.{record_text}
use Rattle.tesla_run_weave.specs.Plan.{filled}
use Rattle.tesla_run_weave.specs.Steps.{IsPutTo}
use Rattle.tesla_run_weave.proofs.writing.put_slots.Given as goal

abbrev pub invariant-loop-k : goal.invariant-loop-k
invariant-loop-k g l = record {
  puts : IsPutTo (gathered l.fn.gatherer ++ flat_map record_text (filled l.slots l.payloads)) (g.O.Sink.written l.fn.out) (g.O.Sink.written l.out) (gathered l.gatherer) (flat_map record_text (filled (drop l.k l.slots) (drop l.at l.payloads)));
  within : l.at ≤ length l.payloads;
  still : g.O.Sink.faults l.out ≡ g.O.Sink.faults l.fn.out;
  name : g.O.Sink.name l.out ≡ g.O.Sink.name l.fn.out;
}
