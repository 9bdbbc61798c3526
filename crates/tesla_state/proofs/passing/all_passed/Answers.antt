use Rattle.std.proofs.Common.{◌≡◌, length, sym, ◌∙◌}
use Rattle.tesla_state.specs.Steps.{is_passed}
use Rattle.tesla_base.proofs.Lists.{not_all_numbers, all_numbers_more, all_numbers}
use Rattle.tesla_state.proofs.passing.all_passed.Goals as goal

pub returns-then-not-has_passed : goal.returns-then-not-has_passed
returns-then-not-has_passed c =
    let long : c.count-chain-end.result ≡ length c.args.config.now.setup.rows = c.count-chain-end.ensures.value in
    sym (not_all_numbers (is_passed c.args.tips.now c.args.interval) (length c.args.config.now.setup.rows) c.loop-chain.chain (rw long at c.loop-chain-test.true) (sym c.has_passed.ensures ∙ c.if-not-has_passed.true))

pub loop-chain-preserved : goal.loop-chain-preserved
loop-chain-preserved c =
    let long : c.count-chain-end.result ≡ length c.args.config.now.setup.rows = c.count-chain-end.ensures.value in
    all_numbers_more (is_passed c.args.tips.now c.args.interval) (length c.args.config.now.setup.rows) c.loop-chain.chain (rw long at c.loop-chain-test.true) c.loop-chain.invariant (sym c.has_passed.ensures ∙ c.if-not-has_passed.false)

pub returns : goal.returns
returns c =
    let long : c.count-chain-end.result ≡ length c.args.config.now.setup.rows = c.count-chain-end.ensures.value in
    sym (all_numbers (is_passed c.args.tips.now c.args.interval) (length c.args.config.now.setup.rows) c.loop-chain.chain (rw long at c.loop-chain-test.false) c.loop-chain.invariant)
