use Rattle.std.proofs.Common.{◌∙◌}
use Rattle.tesla_front.proofs.Openings.{sink_closed}
use Rattle.tesla_run_weave.proofs.Runs.{out_opened, out_unopened}
use Rattle.tesla_run_weave.proofs.writing.write_script.Goals as goal

pub returns-then-whole-clause-opens : goal.returns-then-whole-clause-opens
returns-then-whole-clause-opens g c =
    out_opened c.args.name.now _ _ (sink_closed c.args.name.now _ c.in-Ok.out (g.D.Environment.told c.args.desk.now) _ _ _ _ (c.put_script-whole.ensures.name ∙ c.in-Ok.ensures.named) c.in-Ok.ensures.desk c.close_sink.ensures.desk) (λ e. cc)

pub returns-else-whole-clause-opens : goal.returns-else-whole-clause-opens
returns-else-whole-clause-opens g c =
    out_opened c.args.name.now _ _ (sink_closed c.args.name.now _ c.in-Ok.out (g.D.Environment.told c.args.desk.now) _ _ _ _ (c.put_script-whole.ensures.name ∙ c.in-Ok.ensures.named) c.in-Ok.ensures.desk c.close_sink.ensures.desk) (λ e. cc)

pub returns-in-Err-clause-opens : goal.returns-in-Err-clause-opens
returns-in-Err-clause-opens g c = out_unopened c.args.name.now c.in-Err.refusal c.from.result _ _ c.in-Err.ensures.desk c.from.ensures
