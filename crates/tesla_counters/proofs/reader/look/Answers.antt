use Rattle.std.proofs.Common.{sym, ◌∙◌, arith}
use Rattle.tesla_counters.proofs.StepsKept.{looks}
use Rattle.tesla_counters.proofs.reader.look.Goals as goal

pub load-requires : goal.load-requires
load-requires g c = let seat = c.loop-index.seat in let t = c.counters.inside.table.shared.table_id in (
  c.loop-index.invariant.seat.table ∙ sym c.counters.view_is,
  omega (arith, c.counters.invariant),
  looks t.slots seat.id seat.me _,
)
