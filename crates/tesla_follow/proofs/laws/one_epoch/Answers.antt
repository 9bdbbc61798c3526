use Rattle.tesla_follow.proofs.OneEpoch.{one_epoch}
use Rattle.tesla_follow.proofs.laws.one_epoch.Goals as goal

pub returns : goal.returns
returns c = one_epoch
