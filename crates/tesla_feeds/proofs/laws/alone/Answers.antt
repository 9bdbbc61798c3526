use Rattle.tesla_feeds.proofs.Alone.{are_alone}
use Rattle.tesla_feeds.proofs.laws.alone.Goals as goal

pub returns : goal.returns
returns c = are_alone
