use Rattle.std.proofs.Common.{◌≡◌, sym, ◌∙◌, ap, Some}
use Rattle.tesla_fitting.proofs.Carried.{early_here, early_more}
use Rattle.tesla_fitting.proofs.fitting.any_early_key.Goals as goal

pub returns-then-is_early : goal.returns-then-is_early
returns-then-is_early c =
    let same : c.name-interval.result.interval ≡ c.args.frame.now.name.interval = ap (λ n. n.interval) c.name-interval.ensures in
    sym (early_here c.args.config.now c.args.frame.now.name.interval c.args.frame.now.rows c.loop-chain.chain (rw same at (c.is_early.ensures ∙ ap Some c.if-is_early.true)))

pub loop-chain-preserved : goal.loop-chain-preserved
loop-chain-preserved c =
    early_more c.args.config.now c.name-interval.result.interval c.args.frame.now.rows c.loop-chain.chain (c.is_early.ensures ∙ ap Some c.if-is_early.false) c.loop-chain.invariant
