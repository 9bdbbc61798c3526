use Rattle.std.proofs.Common.{◌<◌, ◌≤◌, length, sym, arith}
use Rattle.tesla_feeds.proofs.Ended.{row_ended, row_lasts, rows_ended, setup_ended}
use Rattle.tesla_feeds.proofs.opening.has_setup_ended.Goals as goal

pub returns-then-not-has_chain_ended : goal.returns-then-not-has_chain_ended
returns-then-not-has_chain_ended c = λ stream same each.
    let setup = c.args.setup.now in
    let inside : c.loop-chain.chain < length setup.rows = omega arith in
    setup_ended stream setup c.args.opening _ (sym (row_lasts setup c.args.opening c.loop-chain.chain c.row.result c.schedule.result c.has_chain_ended.result c.has_chain_ended.ensures c.schedule.ensures c.if-not-has_chain_ended.true inside c.row.ensures.value)) same each

pub loop-chain-preserved : goal.loop-chain-preserved
loop-chain-preserved c =
    let setup = c.args.setup.now in
    let inside : c.loop-chain.chain < length setup.rows = omega arith in
    row_ended setup c.args.opening c.loop-chain.chain c.row.result c.schedule.result c.has_chain_ended.result c.has_chain_ended.ensures c.schedule.ensures c.if-not-has_chain_ended.false inside c.row.ensures.value c.loop-chain.invariant

pub returns : goal.returns
returns c = λ stream same each.
    let setup = c.args.setup.now in
    let all : length setup.rows ≤ c.loop-chain.chain = omega (arith, c.loop-chain-test.false, c.count-chain-end.ensures.value) in
    setup_ended stream setup c.args.opening _ (sym (rows_ended setup c.args.opening c.loop-chain.chain all c.loop-chain.invariant)) same each
