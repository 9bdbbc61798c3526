use Rattle.tesla_feed.proofs.Logs.{are_apart}
use Rattle.tesla_feed.proofs.laws.apart.Goals as goal

pub returns : goal.returns
returns c = are_apart
