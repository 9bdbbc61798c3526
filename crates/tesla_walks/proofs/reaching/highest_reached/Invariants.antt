use Rattle.std.proofs.Common.{take}
use Rattle.tesla_walks.specs.ReachedIntervals.{index_at}
use Rattle.tesla_walks.specs.Walking.{rows_of}
use Rattle.tesla_walks.proofs.ReachedIntervals.{Reaching}
use Rattle.tesla_walks.proofs.reaching.highest_reached.Given as goal

-- the highest so far
abbrev pub invariant-loop-walking : goal.invariant-loop-walking
invariant-loop-walking l = Reaching (index_at l.indices) (take l.walking-index (rows_of l.walks)) l.low l.high l.highest
