use Rattle.std.proofs.lemmas.Result.{err_from_is_err_and}
use Rattle.tesla_front.specs.OutcomeView.{result_view}
use Rattle.tesla_front.proofs.Commands.{counts_by}
use Rattle.tesla_run_weave.specs.Arguments.{arguments_of}
use Rattle.tesla_run_weave.proofs.Runs.{under_unread, under_written}
use Rattle.tesla_run_weave.proofs.run.weave_under.Goals as goal

pub returns-in_err-plan-clause-weaves : goal.returns-in_err-plan-clause-weaves
returns-in_err-plan-clause-weaves g c =
    let p = err_from_is_err_and c.from_residual.result c.from_residual.ensures.1 in
    rw (p.1, p.2) (under_unread (arguments_of c.args.arguments.now) c.args.setup (g.D.Environment.told c.args.desk.now) _ c.in_err-plan.field-0.0 c.read_script.ensures.opens c.read_script.ensures.pages c.in_err-plan.ensures.refused c.in_err-plan.ensures.causes)

pub returns-clause-weaves : goal.returns-clause-weaves
returns-clause-weaves g c =
    under_written (arguments_of c.args.arguments.now) c.args.setup c.in_ok-plan.plan (g.D.Environment.told c.args.desk.now) _ _ (result_view c.write_woven.result) c.in_ok-plan.ensures.opened c.in_ok-plan.ensures.pages c.in_ok-plan.ensures.causes c.in_ok-plan.ensures.found c.write_woven.ensures.opens c.write_woven.ensures.writes (counts_by c.write_woven.result _ _ c.write_woven.ensures.causes)
