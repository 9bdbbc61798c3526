use Rattle.std.proofs.Common.{◌∙◌}
use Rattle.tesla_front.specs.OutcomeView.{result_view}
use Rattle.tesla_run_send.proofs.Runs.{sent_closed, sent_unopened}
use Rattle.tesla_run_send.proofs.run.send_files.Goals as goal

pub returns-in-Ok-clause-sends : goal.returns-in-Ok-clause-sends
returns-in-Ok-clause-sends g c =
    sent_closed c.args.sender.stream c.args.arguments.now.script.now c.args.arguments.now.out.now _ _ _ _ _ _ _ _ (result_view c.send_between-outcome.result) (g.D.Environment.told c.args.desk.now) _ _
    (c.send_between-outcome.ensures.input ∙ c.in-Ok.ensures.names.0) (c.send_between-outcome.ensures.output ∙ c.in-Ok.ensures.names.1) c.in-Ok.ensures.both c.send_between-outcome.ensures.converts c.send_between-outcome.ensures.memory c.send_between-outcome.ensures.reads c.send_between-outcome.ensures.writes c.close_files.ensures

pub returns-in-Err-clause-sends : goal.returns-in-Err-clause-sends
returns-in-Err-clause-sends g c = sent_unopened c.args.sender.stream c.args.arguments.now.script.now c.args.arguments.now.out.now c.in-Err.fault (g.D.Environment.told c.args.desk.now) _ c.in-Err.ensures.refused
