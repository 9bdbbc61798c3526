use Rattle.std.proofs.Common.{◌≡◌, ◌++◌, take}
use Rattle.std.specs.Prelude.{codes}
use Rattle.std.specs.List.{flat_map}
use Rattle.tesla_commit.specs.SetupText.{line}
use Rattle.tesla_seeds.specs.Text.{seed_line}
use Rattle.tesla_seeds.proofs.writing.write_seeds.Given as goal

abbrev pub invariant-loop-chain : goal.invariant-loop-chain
invariant-loop-chain l = l.out.items ≡ line (codes "tesla-seeds") (codes "1") ++ flat_map seed_line (take l.chain l.seeds)
