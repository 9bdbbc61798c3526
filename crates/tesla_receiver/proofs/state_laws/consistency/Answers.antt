use Rattle.tesla_receiver.proofs.Consistent.{consistent}
use Rattle.tesla_receiver.proofs.state_laws.consistency.Goals as goal

pub returns : goal.returns
returns c = consistent
