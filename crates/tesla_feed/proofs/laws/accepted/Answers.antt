use Rattle.tesla_feed.proofs.Logs.{are_accepted}
use Rattle.tesla_feed.proofs.laws.accepted.Goals as goal

pub returns : goal.returns
returns c = are_accepted
