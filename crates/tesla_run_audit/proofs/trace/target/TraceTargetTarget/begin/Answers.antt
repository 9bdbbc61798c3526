use Rattle.tesla_desk.proofs.Told.{prefix_longer}
use Rattle.tesla_run_audit.proofs.trace.target.TraceTargetTarget.begin.Goals as goal

pub returns-clause-halts : goal.returns-clause-halts
returns-clause-halts g c failed = prefix_longer _ _ _ _ (c.put_trace_head.ensures.prefix failed)
