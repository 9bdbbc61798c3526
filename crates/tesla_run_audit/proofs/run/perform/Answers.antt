use Rattle.tesla_run_audit.specs.Arguments.{arguments_of}
use Rattle.tesla_run_audit.proofs.Files.{performs_audit, performs_none, performs_wanting}
use Rattle.tesla_run_audit.proofs.run.perform.Goals as goal

pub returns-in-Ok-open-clause-performs : goal.returns-in-Ok-open-clause-performs
returns-in-Ok-open-clause-performs g c =
    performs_audit (arguments_of c.args.arguments.now) c.in-Ok.setup (g.D.Environment.told c.args.desk.now) _ _ _ c.requires.files c.in-Ok.ensures.opened c.setup_under.ensures.pages c.in-Ok.ensures.found c.in-Ok.ensures.causes c.in-Ok-open.receiver.config c.in-Ok-open.ensures.config c.audit_file.ensures.audits

pub returns-in-Err-open-clause-performs : goal.returns-in-Err-open-clause-performs
returns-in-Err-open-clause-performs g c =
    performs_wanting (arguments_of c.args.arguments.now) c.in-Ok.setup (g.D.Environment.told c.args.desk.now) _ c.requires.files c.setup_under.ensures.opens c.in-Ok.ensures.found c.in-Ok.ensures.causes

pub returns-in-Err-clause-performs : goal.returns-in-Err-clause-performs
returns-in-Err-clause-performs g c =
    performs_none (arguments_of c.args.arguments.now) (g.D.Environment.told c.args.desk.now) _ c.in-Err.stop c.requires.files c.setup_under.ensures.opens c.in-Err.ensures.refused c.in-Err.ensures.causes
