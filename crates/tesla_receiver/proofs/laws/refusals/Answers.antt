use Rattle.tesla_receiver.proofs.Refusals.{counts_alone}
use Rattle.tesla_receiver.proofs.laws.refusals.Goals as goal

pub returns : goal.returns
returns c = counts_alone
