use Rattle.tesla_run_ask.proofs.lag.Complete.{complete}
use Rattle.tesla_run_ask.proofs.lag.laws.completeness.Goals as goal

pub returns : goal.returns
returns c = complete
