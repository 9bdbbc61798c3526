use Rattle.std.proofs.Common.{◌≡◌, take}
use Rattle.tesla_walks.specs.Tips.{tips_after}
use Rattle.tesla_walks.specs.Walking.{rows_of}
use Rattle.tesla_walks.proofs.offers.raise.Given as goal

-- the keys so far are taken
abbrev pub invariant-loop-walking : goal.invariant-loop-walking
invariant-loop-walking l = l.tips ≡ tips_after l.initial.tips (take l.walking-index (rows_of l.walks))
