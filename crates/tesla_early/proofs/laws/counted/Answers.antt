use Rattle.tesla_early.proofs.Counted.{used_counted}
use Rattle.tesla_early.proofs.laws.counted.Goals as goal

pub returns : goal.returns
returns c = used_counted
