use Rattle.tesla_laws.proofs.Rolling.{followed_is_rolled}
use Rattle.tesla_laws.proofs.epochs.as_rolled.Goals as goal

pub returns : goal.returns
returns c = followed_is_rolled
