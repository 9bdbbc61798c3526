use Rattle.std.proofs.Common.{arith, sym, ◌∙◌}
use Rattle.tesla_counters.proofs.StepsKept.{joins, tells}
use Rattle.tesla_counters.proofs.writer.take_in.Goals as goal

pub join_seat-requires : goal.join_seat-requires
join_seat-requires g c = let seat = c.args.seat.now in let other = c.args.other in (
  c.requires.seat.table ∙ sym c.counters.view_is,
  c.requires.other.0 ∙ sym c.counters.view_is,
  c.requires.other.1,
  omega (arith, c.counters.invariant),
  joins seat.id seat.me.0 other.id other.me.0 c.requires.seat.first,
)

pub load-requires : goal.load-requires
load-requires g c = let seat = c.join_seat.new.seat in let t = c.counters.inside.table.shared.table_id in let made = c.join_seat.ensures in (
  made.0 ∙ (c.requires.seat.table ∙ sym c.counters.view_is),
  omega (arith, c.counters.invariant),
  tells t.slots seat.id seat.me (made.1 ∙ c.requires.seat.first),
)
