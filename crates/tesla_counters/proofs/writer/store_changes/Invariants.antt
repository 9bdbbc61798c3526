use Rattle.std.proofs.Common.{◌≡◌, ℕ, ◌<◌, length, get_or}
use Rattle.tesla_counters.specs.Counts.{NoneFalls}
use Rattle.tesla_counters.specs.Steps.{IsSetting}
use Rattle.tesla_counters.proofs.writer.store_changes.Given as goal

abbrev pub invariant-loop-index : goal.invariant-loop-index
invariant-loop-index g l = record { seat : IsSetting l.counters l.held l.seat; size : length l.held ≡ g.row.N; rise : NoneFalls l.held l.counts; same : (k : ℕ) → k < l.index → get_or l.held k 0 ≡ get_or l.counts k 0 }
