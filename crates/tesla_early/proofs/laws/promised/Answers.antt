use Rattle.tesla_early.proofs.Accepted.{was_promised}
use Rattle.tesla_early.proofs.laws.promised.Goals as goal

pub returns : goal.returns
returns c = was_promised
