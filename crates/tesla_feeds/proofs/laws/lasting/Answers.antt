use Rattle.tesla_feeds.proofs.Streams.{are_lasting}
use Rattle.tesla_feeds.proofs.laws.lasting.Goals as goal

pub returns : goal.returns
returns c = are_lasting
