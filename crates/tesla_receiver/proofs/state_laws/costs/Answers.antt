use Rattle.tesla_receiver.proofs.Bounded.{cost_bounded}
use Rattle.tesla_receiver.proofs.Costs.{cost_same, offers_same}
use Rattle.tesla_receiver.proofs.state_laws.costs.Goals as goal

pub returns-clause-same : goal.returns-clause-same
returns-clause-same c = cost_same

pub returns-clause-bounded : goal.returns-clause-bounded
returns-clause-bounded c = cost_bounded

pub returns-clause-badkey : goal.returns-clause-badkey
returns-clause-badkey c = offers_same
