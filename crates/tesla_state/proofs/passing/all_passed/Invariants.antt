use Rattle.std.proofs.Common.{◌≡◌, true, take}
use Rattle.std.specs.List.{list_all}
use Rattle.tesla_fitting.specs.Config.{chains}
use Rattle.tesla_state.specs.Steps.{is_passed}
use Rattle.tesla_state.proofs.passing.all_passed.Given as goal

-- each chain so far has passed
abbrev pub invariant-loop-chain : goal.invariant-loop-chain
invariant-loop-chain l = list_all (is_passed l.tips l.interval) (take l.chain (chains l.config)) ≡ true
