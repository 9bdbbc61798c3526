use Rattle.std.proofs.Common.{◌≡◌, ◌^◌, ◌<◌}
use Rattle.tesla_clock.specs.Safe.{chain_set, is_safe}
use Rattle.tesla_fitting.specs.Config.{chain_row}
use Rattle.tesla_walks.specs.Tips.{tip_at}
use Rattle.tesla_state.proofs.judging.safe_by.Given as goal

-- the safe chains so far
abbrev pub invariant-loop-chain : goal.invariant-loop-chain
invariant-loop-chain l = record {
  set : l.set ≡ chain_set (λ c. is_safe l.bound l.interval (chain_row l.config c).delay (tip_at l.tips c).index) l.chain;
  small : l.set < 2 ^ l.chain;
}
