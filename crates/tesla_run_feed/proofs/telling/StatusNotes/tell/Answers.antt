use Rattle.std.proofs.Common.{◌∙◌, refl, sym, ap}
use Rattle.tesla_feeds.specs.Notes.{Note}
use Rattle.tesla_status.specs.declared.due.Due.{Due}
use Rattle.tesla_run_feed.proofs.Told.{has_as, told_due, told_undue, told_unread}
use Rattle.tesla_run_feed.proofs.telling.StatusNotes.tell.Goals as goal

pub returns-then-is_unread-clause-lines : goal.returns-then-is_unread-clause-lines
returns-then-is_unread-clause-lines g c = λ notes has.
    let it = c.args.self.now in
    let written = g.S.Output.written it.status.sink in
    let faults = g.S.Output.faults it.status.sink in
    let note : Note = record { reading = c.args.reading; counts = c.args.counts.now } in
    told_unread it.schedules.items it.due.every it.opening it.due.since it.last notes note written written faults faults it.status.failed it.status.failed has (sym c.is_unread.ensures ∙ c.if-is_unread.true)

pub returns-then-not-is_due-clause-lines : goal.returns-then-not-is_due-clause-lines
returns-then-not-is_due-clause-lines g c = λ notes has.
    let it = c.args.self.now in
    let now = c.is_due.new.self in
    let written = g.S.Output.written it.status.sink in
    let faults = g.S.Output.faults it.status.sink in
    let note : Note = record { reading = c.args.reading; counts = c.args.counts.now } in
    has_as it.schedules.items it.schedules.items it.due.every now.every it.opening it.opening _ now.since c.args.reading c.args.reading _ written faults it.status.failed refl c.is_due.ensures.every refl c.is_due.ensures.since refl
    (told_undue it.schedules.items it.due.every it.opening it.due.since it.last notes note written written faults faults it.status.failed it.status.failed has (sym c.is_unread.ensures ∙ c.if-is_unread.false) (sym c.is_due.ensures.is ∙ c.if-not-is_due.true))

pub returns-clause-lines : goal.returns-clause-lines
returns-clause-lines g c = λ notes has.
    let it = c.args.self.now in
    let now = c.put.new.self in
    let written = g.S.Output.written it.status.sink in
    let faults = g.S.Output.faults it.status.sink in
    let note : Note = record { reading = c.args.reading; counts = c.args.counts.now } in
    let same = c.put.ensures.fixed in
    has_as it.schedules.items now.schedules.items it.due.every now.due.every it.opening now.opening _ now.due.since c.args.reading now.last _ _ _ _ (ap (λ (v : _). v.items) same.0) (ap (λ (d : Due). d.every) same.2 ∙ c.is_due.ensures.every) same.1 (ap (λ (d : Due). d.since) same.2 ∙ c.is_due.ensures.since) same.3
    (told_due it.schedules.items it.due.every it.opening it.due.since it.last notes note written _ faults _ it.status.failed _ has (sym c.is_unread.ensures ∙ c.if-is_unread.false) (sym c.is_due.ensures.is ∙ c.if-not-is_due.false) c.put.ensures.puts.0 c.put.ensures.puts.1)
