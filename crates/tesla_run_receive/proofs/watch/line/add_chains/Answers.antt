use Rattle.std.proofs.Common.{◌∙◌, arith}
use Rattle.tesla_run_receive.proofs.watch.Noted.{chains_end, chains_next}
use Rattle.tesla_run_receive.proofs.watch.line.add_chains.Goals as goal

pub loop-chain-preserved : goal.loop-chain-preserved
loop-chain-preserved c =
    let loop = c.loop-chain in record {
      text = chains_next _ _ _ _ loop.chain c.args.counts.now c.add_number.ensures.text c.add_number-in-loop-chain.ensures.text c.from.ensures (omega arith) ∙ loop.invariant.text;
      few = omega (arith, loop.invariant.few, c.add_number.ensures.few, c.add_number-in-loop-chain.ensures.few);
    }

pub returns-clause-text : goal.returns-clause-text
returns-clause-text c = chains_end _ _ c.args.counts.now c.loop-chain.chain (omega arith) c.loop-chain.invariant.text
