use Rattle.std.proofs.Common.{ap, subst, List, ℕ, Option}
use Rattle.tesla_desk.specs.Outside.{AppendsPrefix}
use Rattle.tesla_capture.specs.Gathering.{gathered}
use Rattle.tesla_capture.proofs.Gathered.{written_prefix}
use Rattle.tesla_trace.specs.Entries.{entry_in}
use Rattle.tesla_trace.specs.Trace.{entry_text}
use Rattle.tesla_trace.proofs.writing.write_entry.Goals as goal

pub returns-then-put_entry-clause-prefix : goal.returns-then-put_entry-clause-prefix
returns-then-put_entry-clause-prefix g c =
    written_prefix (g.S.Sink.written c.args.sink.now) (g.S.Sink.written c.flush.new.sink) (gathered c.put_entry.new.gatherer) (entry_text (entry_in c.args.entry.now))
    (c.put_entry.ensures.held c.if-put_entry.true)
    (subst (λ (before : Option (List ℕ)). AppendsPrefix before (g.S.Sink.written c.flush.new.sink) (gathered c.put_entry.new.gatherer)) (ap g.S.Sink.written c.put_entry.ensures.waits) c.flush.ensures.prefix)
