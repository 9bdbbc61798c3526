use Rattle.std.proofs.Common.{sym, ◌∙◌, arith}
use Rattle.std.proofs.lemmas.Bool.{lt-ltb}
use Rattle.tesla_sender.proofs.Names.{due_here}
use Rattle.tesla_sender.proofs.namer.+rows_due.Goals as goal

pub returns-then-from-interval : goal.returns-then-from-interval
returns-then-from-interval t c =
    let a = c.args in
    let due = due_here a.interval a.setup.now.rows a.chain c.row.result c.row.ensures.value (omega (arith, c.from.ensures, c.if-from-interval.true)) in
    lt-ltb _ _ c.if-from-interval.true ∙ sym due
