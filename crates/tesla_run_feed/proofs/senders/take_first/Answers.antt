use Rattle.std.proofs.Common.{arith}
use Rattle.tesla_run_feed.proofs.Opened.{taken_first}
use Rattle.tesla_run_feed.proofs.senders.take_first.Goals as goal

pub returns-clause-setups : goal.returns-clause-setups
returns-clause-setups c =
    let all = c.args.list.now.setups in
    taken_first all.items c.remove-setup.new.self.items c.remove-setup.result (omega (arith, c.remove-setup.ensures.len, all.ok.0)) c.remove-setup.ensures.value c.remove-setup.ensures.by_index.2

pub returns-clause-seeds : goal.returns-clause-seeds
returns-clause-seeds c =
    let all = c.args.list.now.seeds in
    taken_first all.items c.remove-seeds.new.self.items c.remove-seeds.result (omega (arith, c.remove-seeds.ensures.len, all.ok.0)) c.remove-seeds.ensures.value c.remove-seeds.ensures.by_index.2
