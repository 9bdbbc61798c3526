use Rattle.std.proofs.Common.{◌≡◌, false, take}
use Rattle.std.specs.List.{list_any}
use Rattle.tesla_commit.specs.Equal.{has_key}
use Rattle.tesla_commit.proofs.equal.has_equal.Given as goal

-- none so far has the commitment
abbrev pub invariant-loop-other : goal.invariant-loop-other
invariant-loop-other l = list_any (has_key l.own) (take l.other l.setup.rows) ≡ false
