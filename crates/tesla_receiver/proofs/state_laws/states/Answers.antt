use Rattle.tesla_receiver.proofs.States.{stands_some, stands_one}
use Rattle.tesla_receiver.proofs.state_laws.states.Goals as goal

pub returns-clause-some : goal.returns-clause-some
returns-clause-some c = stands_some

pub returns-clause-one : goal.returns-clause-one
returns-clause-one c = stands_one
