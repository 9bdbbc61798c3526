use Rattle.tesla_trace.specs.Entries.{entry_in}
use Rattle.tesla_run_audit.proofs.Steps.{checked_wrong}
use Rattle.tesla_run_audit.proofs.judging.Audit.step.Goals as goal

pub returns-in-Err-clause-steps : goal.returns-in-Err-clause-steps
returns-in-Err-clause-steps g c cfg bytes a =
    checked_wrong cfg bytes c.entries-number.result c.args.self.now.auditor c.args.self.now.reader (g.S.Source.left c.args.source.now) (entry_in c.args.self.now.entry) c.in-Err.answer c.refuted.result a
    (c.in-Err.ensures.checks a.judged a.stands) c.entries-number.ensures c.refuted.ensures
