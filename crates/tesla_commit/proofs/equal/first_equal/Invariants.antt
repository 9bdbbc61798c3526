use Rattle.std.proofs.Common.{◌≡◌, length}
use Rattle.tesla_commit.proofs.Equals.{NoneSoFar}
use Rattle.tesla_commit.proofs.equal.first_equal.Given as goal

-- none so far has the commitment of one before it
abbrev pub invariant-loop-chain : goal.invariant-loop-chain
invariant-loop-chain l = record {
  none : NoneSoFar l.setup.rows l.chain;
  end : l.chain-end ≡ length l.setup.rows;
}
