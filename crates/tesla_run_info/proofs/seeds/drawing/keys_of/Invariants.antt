use Rattle.tesla_run_info.specs.seeds.Drawn.{AreDrawn}
use Rattle.tesla_run_info.proofs.seeds.drawing.keys_of.Given as goal

abbrev pub invariant-loop-chain : goal.invariant-loop-chain
invariant-loop-chain l = AreDrawn l.chain l.bytes l.keys.items
