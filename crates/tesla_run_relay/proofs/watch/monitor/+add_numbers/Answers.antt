use Rattle.std.proofs.Common.{arith}
use Rattle.tesla_run_relay.proofs.watch.Told.{next_numbers}
use Rattle.tesla_run_relay.proofs.watch.monitor.+add_numbers.Goals as goal

pub returns : goal.returns
returns t c = next_numbers c.args.relayed.now.counts.items c.args.k c.post-count.result c.args.counts.now.items c.push.new.self.items c.add_numbers.new.counts.items c.post-count.ensures (omega arith) c.push.ensures.items c.add_numbers.ensures
