use Rattle.std.proofs.Common.{◌+◌, ◌*◌, ◌≤◌}
use Rattle.tesla_chain.specs.Cost.{bits}
use Rattle.tesla_sender.specs.Chains.{HasKept}
use Rattle.tesla_sender.proofs.chain.keep_keys.Given as goal

abbrev pub invariant-loop : goal.invariant-loop
invariant-loop g l = record {
  kept : HasKept l.counter l.fn.traversal l.traversal l.fn.kept l.kept;
  call : l.steps ≤ l.fn.steps + l.counter * bits l.fn.traversal.last;
  left : l.steps + l.traversal.left ≤ l.fn.steps + l.fn.traversal.left;
}
