use Rattle.std.proofs.Common.{◌≡◌, map, take}
use Rattle.std.specs.Prelude.{vec_capacity, vec_len}
use Rattle.tesla_fitting.specs.Config.{chains}
use Rattle.tesla_walks.specs.Tips.{first_tip}
use Rattle.tesla_walks.proofs.tips.begin_tips.Given as goal

-- the commitments so far
abbrev pub invariant-loop-chain : goal.invariant-loop-chain
invariant-loop-chain l = record {
  tips : l.tips.items ≡ map (first_tip l.config) (take l.chain (chains l.config));
  count : vec_len l.tips ≡ l.chain;
  room : vec_capacity l.tips ≡ vec_capacity l.initial.tips;
}
