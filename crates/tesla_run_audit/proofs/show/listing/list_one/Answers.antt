use Rattle.std.proofs.Common.{◌∙◌, ◌+◌, ℕ, ap, refl, sym}
use Rattle.tesla_records.specs.Records.{refusal_by}
use Rattle.tesla_trace.specs.Entries.{entry_in}
use Rattle.tesla_trace.specs.declared.kind.TraceKind.{TraceKind}
use Rattle.tesla_audit.specs.Steps.{refusal_of}
use Rattle.tesla_run_audit.specs.show.Lines.{entry_line}
use Rattle.tesla_run_audit.proofs.show.Lists.{goes_up, leaves_by, one_broke, one_ended, one_fault, one_listed, one_refused}
use Rattle.tesla_run_audit.proofs.show.listing.list_one.Goals as goal

pub returns-then-put_line-clause-lists : goal.returns-then-put_line-clause-lists
returns-then-put_line-clause-lists g c =
    one_listed g.R.EntryReader.grammar g.met.R.EntryReader.is g.R.EntryReader.line g.R.EntryReader.number g.R.EntryReader.kind_of (g.R.EntryReader.progress c.args.reader.now) (g.R.EntryReader.progress c.next.new.self) c.args.count (g.S.Source.left c.args.source.now) (g.S.Source.left c.next.new.source)
    (g.R.EntryReader.record_of (entry_in c.next.new.entry)) (entry_line c.number_of-number.result (entry_in c.next.new.entry)) _ _ _ _
    (record { gives = c.in-Entry.ensures.gives; moved = c.in-Entry.ensures.moves.0; heads = c.in-Entry.ensures.heads; head = c.in-Entry.ensures.head })
    (g.met.R.EntryReader.lines (g.R.EntryReader.number (g.R.EntryReader.progress c.next.new.self).head + c.args.count) (entry_in c.next.new.entry)
    ∙ ap (λ (n : ℕ). entry_line n (entry_in c.next.new.entry)) (sym (c.number_of-number.ensures ∙ ap (λ (n : ℕ). n + c.args.count) c.first.ensures)))
    (c.if-put_line.ensures.all refl)

pub returns-then-put_line-clause-rises : goal.returns-then-put_line-clause-rises
returns-then-put_line-clause-rises g c none =
    goes_up g.R.EntryReader.grammar g.met.R.EntryReader.is g.R.EntryReader.line g.R.EntryReader.number g.R.EntryReader.kind_of (g.R.EntryReader.progress c.args.reader.now) (g.R.EntryReader.progress c.next.new.self) (g.R.EntryReader.record_of (entry_in c.next.new.entry)) c.in-Entry.ensures.moves.0 c.in-Entry.ensures.moves.1 c.in-Entry.ensures.limited c.in-Entry.ensures.goes

pub returns-else-put_line-clause-lists : goal.returns-else-put_line-clause-lists
returns-else-put_line-clause-lists g c =
    one_broke g.R.EntryReader.grammar g.met.R.EntryReader.is g.R.EntryReader.line g.R.EntryReader.number g.R.EntryReader.kind_of (g.R.EntryReader.progress c.args.reader.now) (g.R.EntryReader.progress c.next.new.self) c.args.count (g.S.Source.left c.args.source.now) (g.S.Source.left c.next.new.source)
    (g.R.EntryReader.record_of (entry_in c.next.new.entry)) (entry_line c.number_of-number.result (entry_in c.next.new.entry)) _ _ _ _
    (record { gives = c.in-Entry.ensures.gives; moved = c.in-Entry.ensures.moves.0; heads = c.in-Entry.ensures.heads; head = c.in-Entry.ensures.head })
    (g.met.R.EntryReader.lines (g.R.EntryReader.number (g.R.EntryReader.progress c.next.new.self).head + c.args.count) (entry_in c.next.new.entry)
    ∙ ap (λ (n : ℕ). entry_line n (entry_in c.next.new.entry)) (sym (c.number_of-number.ensures ∙ ap (λ (n : ℕ). n + c.args.count) c.first.ensures)))
    (c.if-put_line.ensures.prefix refl)

pub returns-in-End-clause-lists : goal.returns-in-End-clause-lists
returns-in-End-clause-lists g c =
    one_ended g.R.EntryReader.grammar g.met.R.EntryReader.is g.R.EntryReader.line g.R.EntryReader.number g.R.EntryReader.kind_of (g.R.EntryReader.progress c.args.reader.now) (g.R.EntryReader.progress c.next.new.self) c.args.count (g.S.Source.left c.args.source.now) (g.S.Source.left c.next.new.source)
    _ _ (λ rest told. (c.in-End.ensures.gives rest told).0)

pub returns-in-Refused-clause-lists : goal.returns-in-Refused-clause-lists
returns-in-Refused-clause-lists g c =
    one_refused g.R.EntryReader.grammar g.met.R.EntryReader.is g.R.EntryReader.line g.R.EntryReader.number g.R.EntryReader.kind_of (g.R.EntryReader.progress c.args.reader.now) (g.R.EntryReader.progress c.next.new.self) c.args.count (g.S.Source.left c.args.source.now) (g.S.Source.left c.next.new.source)
    c.in-Refused.place c.in-Refused.kind (refusal_by g.R.EntryReader.fault_of (refusal_of c.in-Refused.kind)) _ _ (λ e. ap (λ (k : TraceKind). refusal_by g.R.EntryReader.fault_of (refusal_of k)) e) (g.met.R.EntryReader.kinds c.in-Refused.kind) c.in-Refused.ensures.moves.0
    (λ rest told. let it = c.in-Refused.ensures.gives rest told in (it.0, leaves_by g.R.EntryReader.grammar g.met.R.EntryReader.is g.R.EntryReader.line g.R.EntryReader.number g.R.EntryReader.kind_of g.R.EntryReader.fault_of c.in-Refused.place _ rest _ (refusal_of c.in-Refused.kind) it.1))

pub returns-in-ReadFault-clause-lists : goal.returns-in-ReadFault-clause-lists
returns-in-ReadFault-clause-lists g c =
    one_fault g.R.EntryReader.grammar g.met.R.EntryReader.is g.R.EntryReader.line g.R.EntryReader.number g.R.EntryReader.kind_of (g.R.EntryReader.progress c.args.reader.now) (g.R.EntryReader.progress c.next.new.self) c.args.count (g.S.Source.left c.args.source.now) (g.S.Source.left c.next.new.source)
    _ _ c.in-ReadFault.ensures.gives c.in-ReadFault.ensures.heads c.in-ReadFault.ensures.head (c.in-ReadFault.ensures.cut refl)
