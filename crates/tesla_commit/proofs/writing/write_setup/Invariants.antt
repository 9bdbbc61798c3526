use Rattle.std.proofs.Common.{◌≡◌, ◌++◌, take}
use Rattle.std.specs.List.{flat_map}
use Rattle.tesla_commit.specs.SetupText.{chain_line}
use Rattle.tesla_commit.proofs.writing.write_setup.Given as goal

abbrev pub invariant-loop-chain : goal.invariant-loop-chain
invariant-loop-chain l = l.out.items ≡ l.initial.out.items ++ flat_map chain_line (take l.chain l.setup.rows)
