use Rattle.std.proofs.Common.{◌∙◌, ◌<◌, length, arith}
use Rattle.tesla_feeds.proofs.Delays.{delay_more}
use Rattle.tesla_feeds.proofs.order.greatest_delay.Goals as goal

pub loop-chain-preserved : goal.loop-chain-preserved
loop-chain-preserved c =
    let inside : c.loop-chain.chain < length c.args.setup.now.rows = omega arith in
    c.greater-most.ensures ∙ delay_more c.args.setup.now.rows c.loop-chain.chain c.row.result c.loop-chain.most inside c.row.ensures.value c.loop-chain.invariant
