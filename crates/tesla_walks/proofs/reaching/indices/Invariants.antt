use Rattle.std.proofs.Common.{◌≡◌, ◌<◌, ℕ, length}
use Rattle.tesla_walks.specs.ReachedIntervals.{index_at, index_in}
use Rattle.tesla_walks.proofs.reaching.indices.Given as goal

-- the indices of the chains so far
abbrev pub invariant-loop-chain : goal.invariant-loop-chain
invariant-loop-chain l = (length l.indices ≡ 8) × ((chain : ℕ) → chain < l.chain → index_at l.indices chain ≡ index_in l.tips chain)
