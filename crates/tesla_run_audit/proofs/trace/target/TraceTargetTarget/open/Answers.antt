use Rattle.tesla_run_audit.proofs.trace.Meanings.{says_same}
use Rattle.tesla_run_audit.proofs.trace.target.TraceTargetTarget.open.Goals as goal

pub returns-in-Ok-clause-means : goal.returns-in-Ok-clause-means
returns-in-Ok-clause-means c = says_same _ _ c.in-Ok.ensures.config
