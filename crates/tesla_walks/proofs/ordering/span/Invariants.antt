use Rattle.std.proofs.Common.{◌≡◌, take}
use Rattle.tesla_walks.specs.ReachedIntervals.{highest, lowest}
use Rattle.tesla_walks.specs.Walking.{rows_of}
use Rattle.tesla_walks.proofs.ordering.span.Given as goal

-- the least and the greatest so far
abbrev pub invariant-loop-walking : goal.invariant-loop-walking
invariant-loop-walking l =
    (l.low ≡ lowest l.tips (take l.walking-index (rows_of l.walks)))
    × (l.high ≡ highest (take l.walking-index (rows_of l.walks)))
