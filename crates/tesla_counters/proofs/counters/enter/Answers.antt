use Rattle.std.proofs.Common.{[], arith}
use Rattle.tesla_counters.specs.Steps.{first_view}
use Rattle.tesla_counters.proofs.StepsKept.{enters}
use Rattle.tesla_counters.proofs.counters.enter.Goals as goal

pub load_new_seat-seat-requires : goal.load_new_seat-seat-requires
load_new_seat-seat-requires g c = let t = c.counters.inside.table.shared.table_id in (omega (arith, c.counters.invariant), enters g.row.N t.slots (first_view g.row.N, []))
