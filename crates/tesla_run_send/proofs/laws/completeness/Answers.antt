use Rattle.tesla_run_send.proofs.Complete.{complete}
use Rattle.tesla_run_send.proofs.laws.completeness.Goals as goal

pub returns : goal.returns
returns c = complete
