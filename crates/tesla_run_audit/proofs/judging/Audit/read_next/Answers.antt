use Rattle.std.proofs.Common.{◌≡◌, ◌∙◌, true, false, sym}
use Rattle.tesla_front.specs.OutcomeView.{result_view}
use Rattle.tesla_records.specs.Steps.{goes_on}
use Rattle.tesla_audit.specs.Steps.{records_step}
use Rattle.tesla_run_audit.proofs.Steps.{moves_head, offset_rises, read_at, read_stops, reads_head}
use Rattle.tesla_run_audit.proofs.judging.Audit.read_next.Goals as goal

pub returns-then-going-clause-reads : goal.returns-then-going-clause-reads
returns-then-going-clause-reads g c cfg bytes b =
    let going : goes_on (records_step c.next-step.result) ≡ true = sym c.next-step.ensures.goes ∙ sym c.going.ensures ∙ c.if-going.true in
    read_at cfg bytes c.args.entries c.args.self.now.auditor c.args.self.now.reader c.next-step.new.self (g.S.Source.left c.args.source.now) (g.S.Source.left c.next-step.new.source) c.next-step.result c.next-step.new.entry going b
    (c.next-step.ensures.gives b.rest b.ahead_is) (moves_head _ _ _ _ c.next-step.ensures.heads) (reads_head _ _ _ _ (c.next-step.ensures.head b.rest b.ahead_is))
    (offset_rises c.next-step.result c.next-step.new.entry c.args.self.now.reader.place c.next-step.new.self.place going c.next-step.ensures.moves)

pub returns-else-going-clause-reads : goal.returns-else-going-clause-reads
returns-else-going-clause-reads g c cfg bytes b =
    let none : goes_on (records_step c.next-step.result) ≡ false = sym c.next-step.ensures.goes ∙ sym c.going.ensures ∙ c.if-going.false in
    read_stops cfg bytes c.args.entries c.args.self.now.auditor c.args.self.now.reader c.next-step.new.self (g.S.Source.left c.args.source.now) (g.S.Source.left c.next-step.new.source) c.next-step.result c.next-step.new.entry (result_view c.stop.result) none c.stop.ensures b
    (c.next-step.ensures.gives b.rest b.ahead_is) (moves_head _ _ _ _ c.next-step.ensures.heads) (reads_head _ _ _ _ (c.next-step.ensures.head b.rest b.ahead_is)) c.next-step.ensures.cut
