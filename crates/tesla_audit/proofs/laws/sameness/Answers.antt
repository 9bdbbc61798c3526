use Rattle.tesla_audit.proofs.Same.{is_same, same_is}
use Rattle.tesla_audit.proofs.laws.sameness.Goals as goal

pub returns : goal.returns
returns c = λ a b. (same_is a b, is_same a b)
