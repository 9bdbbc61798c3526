use Rattle.tesla_feeds.proofs.Ordered.{in_order, none_told}
use Rattle.tesla_feeds.proofs.laws.ordered.Goals as goal

pub returns : goal.returns
returns c = λ setups. (in_order 0 setups, none_told 0 setups)
