use Rattle.std.proofs.Common.{◌≡◌, ◌<◌, ◌≤◌, ◌+◌, ℕ, ap, ◌∙◌, sym, subst, arith, rules, min, max, take}
use Rattle.tesla_walks.specs.ReachedIntervals.{index_at}
use Rattle.tesla_walks.specs.Offered.{IsOfChains}
use Rattle.tesla_walks.specs.Walking.{row_of, rows_of}
use Rattle.tesla_walks.proofs.Raising.{row_has}
use Rattle.tesla_walks.proofs.ReachedIntervals.{Reaching, reaching_more, reaching_same}
use Rattle.tesla_walks.proofs.reaching.highest_reached.Goals.{then-indices-from, else-indices-from}
use Rattle.tesla_walks.proofs.reaching.highest_reached.Goals as goal

pub bounds-indices-from : goal.bounds-indices-from
bounds-indices-from c =
    let is = c.row-row.ensures ∙ ap row_of c.walking-item.is in
    let known = row_has (IsOfChains 8) c.args.walks.now c.loop-walking.walking-index c.walking-item.result c.row-row.result c.requires c.loop-walking-test.true is in
    omega (arith, known, c.from.ensures)

pub loop-walking-preserved : goal.loop-walking-preserved
loop-walking-preserved c =
    let newest : ℕ → ℕ = index_at c.args.indices.now in
    let is = c.row-row.ensures ∙ ap row_of c.walking-item.is in
    let at : newest c.from.result ≡ newest c.row-row.result.chain.0 = ap newest c.from.ensures in
    let reached : c.min-reached.result ≡ min c.row-row.result.index c.args.high = search rules in
    let rows = take (c.loop-walking.walking-index + 1) (rows_of c.args.walks.now) in
    elim c.if-indices-from.branch [
      | then-indices-from w ↦
          let above : newest c.from.result < c.min-reached.result = w.if-indices-from.true in
          let greater : w.max-highest.result ≡ max c.loop-walking.highest c.min-reached.result = search rules in
          subst (Reaching newest rows c.args.low c.args.high) (sym w.highest-is)
          (reaching_more newest c.args.walks.now c.loop-walking.walking-index c.walking-item.result c.row-row.result c.loop-walking-test.true is c.args.low c.args.high c.loop-walking.highest c.loop-walking.invariant
          c.min-reached.result w.max-highest.result reached (omega arith) greater)
      | else-indices-from w ↦
          let below : c.min-reached.result ≤ newest c.from.result = w.if-indices-from.false in
          subst (Reaching newest rows c.args.low c.args.high) (sym w.highest-is)
          (reaching_same newest c.args.walks.now c.loop-walking.walking-index c.walking-item.result c.row-row.result c.loop-walking-test.true is c.args.low c.args.high c.loop-walking.highest c.loop-walking.invariant (omega arith))
    ]
