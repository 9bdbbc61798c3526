use Rattle.std.proofs.Common.{◌≡◌, length}
use Rattle.tesla_counters.specs.Counts.{NoneFalls}
use Rattle.tesla_counters.specs.Steps.{IsReading}
use Rattle.tesla_counters.proofs.reader.look.Given as goal

abbrev pub invariant-loop-index : goal.invariant-loop-index
invariant-loop-index g l = record { seat : IsReading l.counters l.counts l.seat; rise : NoneFalls l.initial.counts l.counts; size : length l.counts ≡ g.row.N }
