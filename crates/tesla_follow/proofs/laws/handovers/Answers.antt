use Rattle.tesla_follow.proofs.HandedOver.{handed_over}
use Rattle.tesla_follow.proofs.laws.handovers.Goals as goal

pub returns : goal.returns
returns c = handed_over
