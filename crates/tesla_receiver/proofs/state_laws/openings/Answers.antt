use Rattle.tesla_receiver.proofs.Ends.{stands_opened}
use Rattle.tesla_receiver.proofs.state_laws.openings.Goals as goal

pub returns : goal.returns
returns c = stands_opened
