use Rattle.std.proofs.Common.{arith}
use Rattle.tesla_run_relay.proofs.Counted.{next_lines}
use Rattle.tesla_run_relay.proofs.lines.+add_posts.Goals as goal

pub returns : goal.returns
returns t c = next_lines c.args.relayed.now.counts.items c.args.k c.post.result c.args.lines.now.bytes c.add_post.new.lines.bytes c.add_posts.new.lines.bytes c.post.ensures (omega arith) c.add_post.ensures.text c.add_posts.ensures
