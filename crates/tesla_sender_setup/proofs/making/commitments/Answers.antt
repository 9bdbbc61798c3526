use Rattle.std.proofs.Common.{arith}
use Rattle.tesla_sender_setup.proofs.Setups.{rows_next, cost_next}
use Rattle.tesla_sender_setup.proofs.making.commitments.Goals as goal

pub loop-chain-preserved : goal.loop-chain-preserved
loop-chain-preserved g c = record {
  rows = rows_next c.args.last c.loop-chain.chain c.args.delays.now c.args.seeds.now _ _ _ _ c.loop-chain-test.true c.requires.count c.get.ensures.value c.key_at.ensures.value c.loop-chain.invariant.rows c.push.ensures.items;
  count = omega (arith, c.push.ensures.len, c.loop-chain.invariant.count);
  cost = cost_next c.args.last c.loop-chain.chain c.args.steps.now c.loop-chain.steps c.key_at.new.steps c.loop-chain.invariant.cost c.key_at.ensures.cost;
}
