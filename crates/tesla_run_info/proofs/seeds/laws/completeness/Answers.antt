use Rattle.tesla_run_info.proofs.seeds.Complete.{complete}
use Rattle.tesla_run_info.proofs.seeds.laws.completeness.Goals as goal

pub returns : goal.returns
returns c = complete
