use Rattle.std.proofs.Common.{◌≡◌, length, true}
use Rattle.tesla_run_capture.specs.Recording.{HearsOn}
use Rattle.tesla_run_capture.proofs.recording.hear_all.Given as goal

abbrev pub invariant-loop : goal.invariant-loop
invariant-loop g l = record {
  size : length l.buffer ≡ 2048;
  hears : HearsOn g.C.Clock.read_for l.recorder (g.K.Link.left l.initial.link) (g.K.Link.left l.link) (g.C.Clock.told l.initial.clock) (g.C.Clock.told l.clock) (g.S.Output.written l.initial.output) (g.S.Output.written l.output);
  number : g.K.Link.has_brought l.link l.recorder.count ≡ true;
  read : g.K.Link.faults l.link ≡ g.K.Link.faults l.initial.link;
  write : g.S.Output.faults l.output ≡ g.S.Output.faults l.initial.output;
  link_name : g.K.Link.name l.link ≡ g.K.Link.name l.initial.link;
  output_name : g.S.Output.name l.output ≡ g.S.Output.name l.initial.output;
}
