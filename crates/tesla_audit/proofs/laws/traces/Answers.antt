use Rattle.tesla_audit.proofs.Outlines.{trace_again, trace_found}
use Rattle.tesla_audit.proofs.laws.traces.Goals as goal

pub returns-clause-found : goal.returns-clause-found
returns-clause-found c = trace_found

pub returns-clause-only : goal.returns-clause-only
returns-clause-only c = trace_again
