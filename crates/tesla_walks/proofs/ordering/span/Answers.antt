use Rattle.std.proofs.Common.{◌≡◌, ◌-◌, ◌^◌, ap, sym, subst, ◌∙◌, length, arith, min, max, rules, take}
use Rattle.std.proofs.lemmas.List.{take_all, length-map}
use Rattle.tesla_keys.specs.Tip.{Tip}
use Rattle.tesla_walks.specs.ReachedIntervals.{Spans, higher, highest, lower, lowest}
use Rattle.tesla_walks.specs.Offered.{IsOfChains}
use Rattle.tesla_walks.specs.Tips.{tip_at}
use Rattle.tesla_walks.specs.Walking.{row_of, rows_of}
use Rattle.tesla_walks.proofs.Spanning.{spans, walk_more}
use Rattle.tesla_walks.proofs.Offering.{tip_found}
use Rattle.tesla_walks.proofs.Raising.{row_has}
use Rattle.tesla_walks.proofs.ordering.span.Goals as goal

pub bounds-tips-from : goal.bounds-tips-from
bounds-tips-from c =
    let is = c.row-row.ensures ∙ ap row_of c.walking-item.is in
    let known = row_has (IsOfChains (length c.args.tips.now)) c.args.walks.now c.loop-walking.walking-index c.walking-item.result c.row-row.result c.requires c.loop-walking-test.true is in
    omega (arith, known, c.from.ensures)

pub loop-walking-preserved : goal.loop-walking-preserved
loop-walking-preserved c =
    let is = c.row-row.ensures ∙ ap row_of c.walking-item.is in
    let row = c.row-row.result in
    let known = row_has (IsOfChains (length c.args.tips.now)) c.args.walks.now c.loop-walking.walking-index c.walking-item.result row c.requires c.loop-walking-test.true is in
    let tip : c.index-tips-from.result ≡ tip_at c.args.tips.now row.chain.0 = tip_found c.args.tips.now c.from.result row.chain.0 c.index-tips-from.result c.index-tips-from.is c.from.ensures known in
    let newest = c.newest.ensures.index ∙ ap (λ (t : Tip). t.index) tip in
    let greater : c.max-high.result ≡ max c.loop-walking.high row.index = search rules in
    let low = walk_more (lower c.args.tips.now) (2 ^ 32 - 1) c.args.walks.now c.loop-walking.walking-index c.walking-item.result row c.loop-walking-test.true is in
    let high = walk_more higher 0 c.args.walks.now c.loop-walking.walking-index c.walking-item.result row c.loop-walking-test.true is in (
      c.min-low.ensures ∙ ap (λ n. min n c.newest.result.0) c.loop-walking.invariant.0 ∙ ap (min (lowest c.args.tips.now (take c.loop-walking.walking-index (rows_of c.args.walks.now)))) newest ∙ sym low,
      greater ∙ ap (λ n. max n row.index) c.loop-walking.invariant.1 ∙ sym high,
    )

pub returns-clause-spans : goal.returns-clause-spans
returns-clause-spans c =
    let tips = c.args.tips.now in let rows = rows_of c.args.walks.now in
    let whole = take_all c.loop-walking.walking-index rows (omega (arith, length-map c.args.walks.now row_of)) in
    let low : c.loop-walking.low ≡ lowest tips rows = c.loop-walking.invariant.0 ∙ ap (lowest tips) whole in
    let high : c.loop-walking.high ≡ highest rows = c.loop-walking.invariant.1 ∙ ap highest whole in
    subst (λ n. Spans tips rows n c.loop-walking.high) (sym low) (subst (λ n. Spans tips rows (lowest tips rows) n) (sym high) (spans tips rows))
