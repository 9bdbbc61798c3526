use Rattle.std.proofs.Common.{sym, ◌∙◌, arith}
use Rattle.tesla_counters.proofs.StepsKept.{stores}
use Rattle.tesla_counters.proofs.writer.store_changes.Goals as goal

pub store-requires : goal.store-requires
store-requires g c = let seat = c.loop-index.seat in let t = c.counters.inside.table.shared.table_id in let kept = c.loop-index.invariant in (
  kept.seat.table ∙ sym c.counters.view_is,
  omega (arith, c.counters.invariant),
  stores t.slots seat.id seat.me _ _ kept.seat.first (rw kept.seat.exact (omega (arith, kept.rise))),
)
