use Rattle.std.proofs.Common.{◌≡◌, ℕ, true, take}
use Rattle.std.specs.List.{list_all}
use Rattle.tesla_fitting.specs.Config.{chains}
use Rattle.tesla_walks.specs.ItemShown.{holding_in}
use Rattle.tesla_state.specs.Steps.{is_over}
use Rattle.tesla_state.proofs.passing.all_over.Given as goal

-- no chain so far can prove the packet any more
abbrev pub invariant-loop-chain : goal.invariant-loop-chain
invariant-loop-chain l = (count : ℕ) → list_all (is_over l.tips (holding_in count l.item)) (take l.chain (chains l.config)) ≡ true
