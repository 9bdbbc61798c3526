use Rattle.std.proofs.Common.{◌∙◌}
use Rattle.tesla_front.specs.OutcomeView.{result_view}
use Rattle.tesla_state.specs.Steps.{with_ingests}
use Rattle.tesla_run_audit.proofs.Files.{audits_closed, audits_unopened}
use Rattle.tesla_run_audit.proofs.run.audit_file.Goals as goal

pub returns-in-Ok-clause-audits : goal.returns-in-Ok-clause-audits
returns-in-Ok-clause-audits g c =
    audits_closed (with_ingests c.args.receiver.config) c.args.trace.now _ c.in-Ok.source (result_view c.audit_trace-outcome.result) _ _ _ _ (g.D.Environment.told c.args.desk.now) _ _
    (c.audit_trace-outcome.ensures.name ∙ c.in-Ok.ensures.named) c.in-Ok.ensures.opened c.in-Ok.ensures.desk c.audit_trace-outcome.ensures.audits c.in-Ok.ensures.fresh c.audit_trace-outcome.ensures.cause c.close_source.ensures.desk

pub returns-in-Err-clause-audits : goal.returns-in-Err-clause-audits
returns-in-Err-clause-audits g c =
    audits_unopened (with_ingests c.args.receiver.config) c.args.trace.now c.in-Err.refusal _ (g.D.Environment.told c.args.desk.now) _ c.from.ensures c.in-Err.ensures.desk
