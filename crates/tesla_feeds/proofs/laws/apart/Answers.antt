use Rattle.tesla_feeds.proofs.Apart.{all_apart}
use Rattle.tesla_feeds.proofs.laws.apart.Goals as goal

pub returns : goal.returns
returns c = all_apart
