use Rattle.std.proofs.Common.{◌≡◌, length, sym, ◌∙◌}
use Rattle.tesla_state.specs.Steps.{is_over}
use Rattle.tesla_walks.specs.ItemShown.{holding_in}
use Rattle.tesla_base.proofs.Lists.{not_all_numbers, all_numbers_more, all_numbers}
use Rattle.tesla_state.proofs.passing.all_over.Goals as goal

pub returns-then-not-is_over : goal.returns-then-not-is_over
returns-then-not-is_over c count =
    let long : c.count-chain-end.result ≡ length c.args.config.now.setup.rows = c.count-chain-end.ensures.value in
    sym (not_all_numbers (is_over c.args.tips.now (holding_in count c.args.item.now)) (length c.args.config.now.setup.rows) c.loop-chain.chain (rw long at c.loop-chain-test.true) (sym (c.is_over.ensures count) ∙ c.if-not-is_over.true))

pub loop-chain-preserved : goal.loop-chain-preserved
loop-chain-preserved c count =
    let long : c.count-chain-end.result ≡ length c.args.config.now.setup.rows = c.count-chain-end.ensures.value in
    all_numbers_more (is_over c.args.tips.now (holding_in count c.args.item.now)) (length c.args.config.now.setup.rows) c.loop-chain.chain (rw long at c.loop-chain-test.true) (c.loop-chain.invariant count) (sym (c.is_over.ensures count) ∙ c.if-not-is_over.false)

pub returns : goal.returns
returns c count =
    let long : c.count-chain-end.result ≡ length c.args.config.now.setup.rows = c.count-chain-end.ensures.value in
    sym (all_numbers (is_over c.args.tips.now (holding_in count c.args.item.now)) (length c.args.config.now.setup.rows) c.loop-chain.chain (rw long at c.loop-chain-test.false) (c.loop-chain.invariant count))
