use Rattle.tesla_receiver.proofs.KeptPackets.{kept_safe}
use Rattle.tesla_receiver.proofs.laws.kept.Goals as goal

pub returns : goal.returns
returns c = kept_safe
