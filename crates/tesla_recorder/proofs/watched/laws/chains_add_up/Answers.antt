use Rattle.tesla_recorder.proofs.watched.Chains.{adds_up}
use Rattle.tesla_recorder.proofs.watched.laws.chains_add_up.Goals as goal

pub returns : goal.returns
returns c = adds_up
