use Rattle.tesla_receiver.proofs.ProvedPackets.{proved_released}
use Rattle.tesla_receiver.proofs.laws.proved.Goals as goal

pub returns : goal.returns
returns c = proved_released
