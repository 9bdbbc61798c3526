use Rattle.tesla_theorem.proofs.Once.{given_once}
use Rattle.tesla_theorem.proofs.laws.once.Goals as goal

pub returns : goal.returns
returns c = given_once c.by_index.ensures c.prefixes.ensures.released c.prefixes.ensures.given
