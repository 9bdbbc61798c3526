use Rattle.std.proofs.Common.{◌≡◌, ◌-◌, length}
use Rattle.tesla_records.specs.Pieces.{pending, ahead}
use Rattle.tesla_records.proofs.pieces.PieceReader.find_record.Given as goal

abbrev pub invariant-loop-found : goal.invariant-loop-found
invariant-loop-found g l = record {
  place : l.self.place ≡ l.initial.self.place;
  same : ahead l.self (g.S.Source.left l.source) ≡ ahead l.initial.self (g.S.Source.left l.initial.source);
  faults : g.S.Source.faults l.source ≡ g.S.Source.faults l.initial.source;
  name : g.S.Source.name l.source ≡ g.S.Source.name l.initial.source;
}

abbrev pub decreases-loop-found : goal.decreases-loop-found
decreases-loop-found g l = 4096 - length (pending l.self)
