use Rattle.std.proofs.Common.{◌≡◌, ◌≤◌, ◌-◌, length}
use Rattle.tesla_desk.specs.Outside.{after_bytes}
use Rattle.tesla_front.proofs.files.read_by_pieces.Given as goal

abbrev pub invariant-loop-bytes : goal.invariant-loop-bytes
invariant-loop-bytes g l = record {
  most : length l.bytes.items ≤ l.most;
  size : length l.piece ≡ 4096;
  read : g.S.Source.left l.initial.source ≡ after_bytes l.bytes.items (g.S.Source.left l.source);
  faults : g.S.Source.faults l.source ≡ g.S.Source.faults l.initial.source;
  name : g.S.Source.name l.source ≡ g.S.Source.name l.initial.source;
}

abbrev pub decreases-loop-bytes : goal.decreases-loop-bytes
decreases-loop-bytes g l = l.most - length l.bytes.items
