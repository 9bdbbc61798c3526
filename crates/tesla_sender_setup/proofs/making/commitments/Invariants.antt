use Rattle.std.proofs.Common.{◌≡◌, ◌+◌, ◌*◌, length, take}
use Rattle.tesla_sender_setup.specs.Made.{rows_of}
use Rattle.tesla_sender_setup.proofs.making.commitments.Given as goal

abbrev pub invariant-loop-chain : goal.invariant-loop-chain
invariant-loop-chain g l = record {
  rows : l.rows.items ≡ rows_of l.last (take l.chain l.delays) (take l.chain l.seeds);
  count : length l.rows.items ≡ l.chain;
  cost : l.steps ≡ l.initial.steps + l.chain * l.last;
}
