use Rattle.tesla_feed.proofs.Logs.{are_over}
use Rattle.tesla_feed.proofs.laws.ended.Goals as goal

pub returns : goal.returns
returns c = are_over
