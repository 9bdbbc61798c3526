use Rattle.std.proofs.Common.{◌∙◌, Err, ap}
use Rattle.tesla_run_stress.proofs.Setups.{assembled_is, no_line, the_setup}
use Rattle.tesla_run_stress.specs.Base.{base_setup}
use Rattle.tesla_run_stress.proofs.base.assembled.Goals as goal

pub unreachable-requires-in-Err-At : goal.unreachable-requires-in-Err-At
unreachable-requires-in-Err-At c =
    no_line (base_setup c.args.last) c.new-2.result _ _ (assembled_is c.args.last c.in-Some.schedule c.args.rows.now c.new-2.result c.requires.some c.requires.most c.in-Some.ensures.0 c.requires.rows c.new-2.ensures) (c.in-Err-At.is ∙ ap (λ e. Err e) c.in-Err-At.field-0-is)

pub returns-in-Ok : goal.returns-in-Ok
returns-in-Ok c =
    the_setup (base_setup c.args.last) c.in-Ok.setup c.new-2.result (assembled_is c.args.last c.in-Some.schedule c.args.rows.now c.new-2.result c.requires.some c.requires.most c.in-Some.ensures.0 c.requires.rows c.new-2.ensures) c.in-Ok.is
