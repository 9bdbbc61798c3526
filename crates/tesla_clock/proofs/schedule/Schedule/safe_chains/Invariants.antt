use Rattle.std.proofs.Common.{◌≡◌, ◌^◌, ◌<◌, slice_index}
use Rattle.tesla_clock.specs.Safe.{chain_set, is_safe}
use Rattle.tesla_clock.proofs.schedule.Schedule.safe_chains.Given as goal

-- the safe chains so far
abbrev pub invariant-loop-chain : goal.invariant-loop-chain
invariant-loop-chain l = record {
  set : l.set ≡ chain_set (λ c. is_safe l.bound l.interval (slice_index l.delays c) (slice_index l.newest c)) l.chain;
  small : l.set < 2 ^ l.chain;
}
