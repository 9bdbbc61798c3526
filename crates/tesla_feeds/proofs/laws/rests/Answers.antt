use Rattle.tesla_feeds.proofs.Resting.{are_resting}
use Rattle.tesla_feeds.proofs.laws.rests.Goals as goal

pub returns : goal.returns
returns c = are_resting
