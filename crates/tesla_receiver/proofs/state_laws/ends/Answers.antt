use Rattle.tesla_receiver.proofs.Ends.{stands_ended}
use Rattle.tesla_receiver.proofs.state_laws.ends.Goals as goal

pub returns : goal.returns
returns c = stands_ended
