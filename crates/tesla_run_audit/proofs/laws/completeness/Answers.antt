use Rattle.tesla_run_audit.proofs.Exact.{complete}
use Rattle.tesla_run_audit.proofs.laws.completeness.Goals as goal

pub returns : goal.returns
returns c = complete
