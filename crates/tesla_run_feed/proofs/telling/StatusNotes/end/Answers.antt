use Rattle.tesla_run_feed.proofs.Told.{told_end}
use Rattle.tesla_run_feed.proofs.telling.StatusNotes.end.Goals as goal

pub returns-clause-lines : goal.returns-clause-lines
returns-clause-lines g c = λ notes has.
    let it = c.args.self.now in
    told_end it.schedules.items it.due.every it.opening it.due.since it.last notes (record { reading = it.last; counts = c.args.counts.now }) _ _ _ _ _ _ has c.args.counts.now c.put.ensures.puts.0 c.put.ensures.puts.1
