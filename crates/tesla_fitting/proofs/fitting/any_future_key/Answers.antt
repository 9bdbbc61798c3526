use Rattle.std.proofs.Common.{sym, ◌∙◌}
use Rattle.tesla_fitting.specs.Fitting.{is_undisclosed}
use Rattle.tesla_base.proofs.Lists.{list_any_got, list_any_got_more}
use Rattle.tesla_fitting.proofs.fitting.any_future_key.Goals as goal

pub returns-then-is_undisclosed : goal.returns-then-is_undisclosed
returns-then-is_undisclosed c =
    sym (list_any_got (is_undisclosed c.args.config.now c.args.bound) c.args.frame.now.rows c.loop-place.place c.row-row.result c.row-row.ensures (sym c.is_undisclosed.ensures ∙ c.if-is_undisclosed.true))

pub loop-place-preserved : goal.loop-place-preserved
loop-place-preserved c =
    list_any_got_more (is_undisclosed c.args.config.now c.args.bound) c.args.frame.now.rows c.loop-place.place c.row-row.result c.row-row.ensures c.loop-place.invariant (sym c.is_undisclosed.ensures ∙ c.if-is_undisclosed.false)
