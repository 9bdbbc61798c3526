use Rattle.tesla_early.proofs.Live.{woven_early}
use Rattle.tesla_early.proofs.laws.woven.Goals as goal

pub returns : goal.returns
returns c = woven_early
