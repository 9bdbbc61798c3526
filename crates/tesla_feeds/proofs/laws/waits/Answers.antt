use Rattle.tesla_feeds.proofs.Resting.{are_waiting}
use Rattle.tesla_feeds.proofs.laws.waits.Goals as goal

pub returns : goal.returns
returns c = are_waiting
