use Rattle.tesla_run_weave.proofs.Complete.{complete}
use Rattle.tesla_run_weave.proofs.laws.completeness.Goals as goal

pub returns : goal.returns
returns c = complete
