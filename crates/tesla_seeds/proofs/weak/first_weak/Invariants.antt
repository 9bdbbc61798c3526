use Rattle.tesla_seeds.specs.Weak.{AreSoundBefore}
use Rattle.tesla_seeds.proofs.weak.first_weak.Given as goal

abbrev pub invariant-loop-chain : goal.invariant-loop-chain
invariant-loop-chain l = AreSoundBefore l.seeds l.chain
