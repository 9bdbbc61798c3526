use Rattle.tesla_run_chain.proofs.Complete.{complete}
use Rattle.tesla_run_chain.proofs.laws.completeness.Goals as goal

pub returns : goal.returns
returns c = complete
