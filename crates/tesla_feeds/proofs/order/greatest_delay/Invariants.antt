use Rattle.std.proofs.Common.{◌≡◌, take}
use Rattle.std.specs.List.{fold}
use Rattle.tesla_feeds.specs.Order.{greater_delay}
use Rattle.tesla_feeds.proofs.order.greatest_delay.Given as goal

abbrev pub invariant-loop-chain : goal.invariant-loop-chain
invariant-loop-chain l = l.most ≡ fold greater_delay 0 (take l.chain l.setup.rows)
