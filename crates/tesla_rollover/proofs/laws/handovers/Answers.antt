use Rattle.tesla_rollover.proofs.Handovers.{setups_handed}
use Rattle.tesla_rollover.proofs.laws.handovers.Goals as goal

pub returns : goal.returns
returns c = setups_handed
