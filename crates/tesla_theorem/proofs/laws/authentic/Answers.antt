use Rattle.tesla_theorem.proofs.Given.{authentic}
use Rattle.tesla_theorem.proofs.laws.authentic.Goals as goal

pub returns : goal.returns
returns c = authentic c.by_index.ensures c.prefixes.ensures.legal c.kept.ensures c.new_keys.ensures.taken
