use Rattle.tesla_feeds.proofs.Accepted.{all_accepted}
use Rattle.tesla_feeds.proofs.laws.accepted.Goals as goal

pub returns : goal.returns
returns c = all_accepted
