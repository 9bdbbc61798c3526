use Rattle.std.proofs.Common.{◌≡◌, ◌-◌, ◌≤◌, ℕ, List, [], Some, true}
use Rattle.tesla_capture.specs.Gathering.{gathered}
use Rattle.tesla_capture.specs.Grammar.{limit}
use Rattle.tesla_capture.specs.Steps.{ahead}
use Rattle.tesla_convert.specs.Held.{HoldsText}
use Rattle.tesla_convert.specs.Steps.{IsAt}
use Rattle.tesla_convert.proofs.conversion.Conversion.convert_records.Given as goal

abbrev pub invariant-loop-ending : goal.invariant-loop-ending
invariant-loop-ending g l = record {
  calls : g.C.Converter.calls l.self.converter ≤ l.reader.place;
  limited : l.reader.place ≤ limit;
  going : l.reader.going ≡ true;
  rule : g.C.Converter.rule l.self.converter ≡ g.C.Converter.rule l.initial.self.converter;
  reads : g.S.Source.faults l.source ≡ g.S.Source.faults l.initial.source;
  writes : g.O.Sink.faults l.out ≡ g.O.Sink.faults l.initial.out;
  input : g.S.Source.name l.source ≡ g.S.Source.name l.initial.source;
  output : g.O.Sink.name l.out ≡ g.O.Sink.name l.initial.out;
  at : (bytes : List ℕ) → g.S.Source.left l.initial.source ≡ Some bytes → g.C.Converter.has l.initial.self.converter [] → HoldsText (g.O.Sink.written l.initial.out) (gathered l.initial.self.gatherer) (g.C.Converter.rule l.initial.self.converter).begins
      → IsAt g.C.Converter.grammar g.row.C-Kind.Denot (g.C.Converter.rule l.initial.self.converter) (g.C.Converter.has l.self.converter) bytes l.reader.place (ahead l.reader (g.S.Source.left l.source)) (g.O.Sink.written l.out) (gathered l.self.gatherer);
}

abbrev pub decreases-loop-ending : goal.decreases-loop-ending
decreases-loop-ending g l = limit - l.reader.place
