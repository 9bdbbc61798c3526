use Rattle.std.proofs.lemmas.Bool.{lt-ltb, le-ltb}
use Rattle.std.proofs.lemmas.List.{take_rest}
use Rattle.tesla_frame.proofs.InPlace.{rises_next}
use Rattle.tesla_frame.proofs.rows.+do_chains_rise.Goals as goal

pub returns-then-bytes : goal.returns-then-bytes
returns-then-bytes t c =
    let below = lt-ltb _ _ c.if-bytes.true in
    rw (rises_next c.args.count c.args.bytes.now c.if-count-lt2.false, below, ← take_rest c.args.bytes.now 37) c.do_chains_rise.ensures

pub returns-else-bytes : goal.returns-else-bytes
returns-else-bytes t c =
    let above = le-ltb _ _ c.if-bytes.false in
    rw (rises_next c.args.count c.args.bytes.now c.if-count-lt2.false, above)
