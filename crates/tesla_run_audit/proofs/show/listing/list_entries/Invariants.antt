use Rattle.std.proofs.Common.{◌≡◌, ◌-◌, ◌≤◌, true}
use Rattle.tesla_capture.specs.Gathering.{gathered}
use Rattle.tesla_records.specs.Grammar.{limit}
use Rattle.tesla_records.specs.Steps.{ahead}
use Rattle.tesla_run_audit.specs.show.Steps.{ListedSoFar}
use Rattle.tesla_run_audit.proofs.show.listing.list_entries.Given as goal

abbrev pub invariant-loop-listed : goal.invariant-loop-listed
invariant-loop-listed g l = record {
  going : (g.R.EntryReader.progress l.reader).going ≡ true;
  limited : (g.R.EntryReader.progress l.reader).place ≤ limit;
  counted : l.count ≤ (g.R.EntryReader.progress l.reader).place;
  reads : g.S.Source.faults l.source ≡ g.S.Source.faults l.initial.source;
  writes : g.O.Sink.faults l.console ≡ g.O.Sink.faults l.initial.console;
  input : g.S.Source.name l.source ≡ g.S.Source.name l.initial.source;
  output : g.O.Sink.name l.console ≡ g.O.Sink.name l.initial.console;
  listed : ListedSoFar g.R.EntryReader.grammar g.R.EntryReader.line g.R.EntryReader.number g.R.EntryReader.kind_of (g.R.EntryReader.progress l.reader) l.count (ahead (g.R.EntryReader.progress l.initial.reader) (g.S.Source.left l.initial.source)) (g.S.Source.left l.source) (g.O.Sink.written l.initial.console) (g.O.Sink.written l.console) (gathered l.initial.gatherer) (gathered l.gatherer);
}

abbrev pub decreases-loop-listed : goal.decreases-loop-listed
decreases-loop-listed g l = limit - (g.R.EntryReader.progress l.reader).place
