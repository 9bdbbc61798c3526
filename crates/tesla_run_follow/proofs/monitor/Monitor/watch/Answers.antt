use Rattle.std.proofs.Common.{◌∙◌}
use Rattle.tesla_run_follow.proofs.monitor.Monitor.watch.Goals.{then-is_due, else-is_due}
use Rattle.tesla_run_follow.proofs.monitor.Monitor.watch.Goals as goal

pub loop-preserved : goal.loop-preserved
loop-preserved g c =
    let was = c.loop.invariant in
    elim c.if-is_due.branch [
      | then-is_due w ↦ (
          let more = w.note.ensures in
          rw w.self-is (record {
            notes = λ before first noted. more.notes before first (was.notes before first noted);
            name = more.name ∙ was.name;
            counters = more.counters ∙ was.counters;
            columns = more.columns ∙ was.columns;
          }))
      | else-is_due w ↦ rw w.self-is (record { notes = was.notes; name = was.name; counters = was.counters; columns = was.columns })
    ]
