use Rattle.std.proofs.Common.{◌≡◌, ◌+◌, ◌*◌, ◌≤◌, length}
use Rattle.tesla_chain.specs.Cost.{W}
use Rattle.tesla_stream_tests.proofs.tests.sender.sends.Given as goal

abbrev pub invariant-loop-reading : goal.invariant-loop-reading
invariant-loop-reading g l = record {
  chains : length l.sender.stream.setup.rows ≡ length l.fn.setup.rows;
  sent : l.sent ≤ l.reading-index;
  cost : l.steps + l.sender.left ≤ l.fn.steps + length l.fn.setup.rows * (W l.fn.setup.times.last + l.fn.setup.times.last) + l.reading-index * (2 * length l.fn.setup.rows);
}
