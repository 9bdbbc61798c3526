use Rattle.std.proofs.Common.{◌≡◌, take, true}
use Rattle.tesla_feeds.proofs.Ended.{rows_end}
use Rattle.tesla_feeds.proofs.opening.has_setup_ended.Given as goal

abbrev pub invariant-loop-chain : goal.invariant-loop-chain
invariant-loop-chain l = rows_end l.setup l.opening (take l.chain l.setup.rows) ≡ true
