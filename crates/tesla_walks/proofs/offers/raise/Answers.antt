use Rattle.std.proofs.Common.{ap, sym, subst, ◌∙◌, length, get_or, arith}
use Rattle.std.proofs.Math.ListN.{set}
use Rattle.tesla_keys.specs.Offers.{offer_of, IsGood}
use Rattle.tesla_walks.specs.Offered.{IsOfChains}
use Rattle.tesla_walks.specs.Walking.{row_of}
use Rattle.tesla_walks.proofs.Raising.{after_none, row_has, may_take, taken_more}
use Rattle.tesla_walks.proofs.offers.raise.Goals as goal

pub loop-walking-init : goal.loop-walking-init
loop-walking-init c = after_none 0 c.args.tips.now

pub bounds-tips-from : goal.bounds-tips-from
bounds-tips-from c =
    let is = c.row-row.ensures ∙ ap row_of c.walking-item.is in
    let known = row_has (IsOfChains (length c.args.tips.now)) c.args.walks.now c.loop-walking.walking-index c.walking-item.result c.row-row.result c.requires.chains c.loop-walking-test.true is in
    omega (arith, known, c.from.ensures, c.loop-walking.auto.tips)

pub take-requires : goal.take-requires
take-requires c =
    let is = c.row-row.ensures ∙ ap row_of c.walking-item.is in
    let known = row_has (IsOfChains (length c.args.tips.now)) c.args.walks.now c.loop-walking.walking-index c.walking-item.result c.row-row.result c.requires.chains c.loop-walking-test.true is in
    subst (λ n. IsGood (offer_of (get_or c.loop-walking.tips n c.index-tips-from.result) c.row-row.result.index c.row-row.result.key)) (sym c.from.ensures)
    (may_take c.args.tips.now c.loop-walking.tips c.args.walks.now c.loop-walking.walking-index c.walking-item.result c.row-row.result c.loop-walking.invariant c.loop-walking-test.true is c.requires.rise known c.requires.good c.index-tips-from.result)

pub loop-walking-preserved : goal.loop-walking-preserved
loop-walking-preserved c =
    let is = c.row-row.ensures ∙ ap row_of c.walking-item.is in
    let known = row_has (IsOfChains (length c.args.tips.now)) c.args.walks.now c.loop-walking.walking-index c.walking-item.result c.row-row.result c.requires.chains c.loop-walking-test.true is in
    ap (λ n. set c.loop-walking.tips n c.take.new.self) c.from.ensures
    ∙ ap (set c.loop-walking.tips c.row-row.result.chain.0) c.take.ensures
    ∙ taken_more c.args.tips.now c.loop-walking.tips c.args.walks.now c.loop-walking.walking-index c.walking-item.result c.row-row.result c.loop-walking.invariant c.loop-walking-test.true is c.requires.rise known c.requires.good
