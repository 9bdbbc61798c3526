use Rattle.std.proofs.Common.{sym, ◌∙◌}
use Rattle.tesla_fitting.specs.Fitting.{is_outside}
use Rattle.tesla_base.proofs.Lists.{list_any_got}
use Rattle.tesla_fitting.proofs.fitting.keys_misfit.Goals as goal

pub returns-then-is_outside : goal.returns-then-is_outside
returns-then-is_outside c =
    sym (list_any_got (is_outside c.args.config.now) c.args.frame.now.rows c.loop-place.place c.row-row.result c.row-row.ensures (sym c.is_outside.ensures ∙ c.if-is_outside.true))
