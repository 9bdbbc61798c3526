use Rattle.std.proofs.Common.{arith}
use Rattle.tesla_run_relay.proofs.Counted.{next_failed, one_failed}
use Rattle.tesla_run_relay.proofs.lines.+any_failed.Goals as goal

pub returns-then-post : goal.returns-then-post
returns-then-post t c = one_failed c.args.relayed.now.counts.items c.args.k c.post.result c.post.ensures (omega arith) c.if-post.true

pub returns : goal.returns
returns t c = next_failed c.args.relayed.now.counts.items c.args.k c.post.result c.any_failed.result c.post.ensures (omega arith) c.if-post.false c.any_failed.ensures
