use Rattle.tesla_receiver.proofs.States.{held_number, interval_number, waiting_number}
use Rattle.tesla_receiver.proofs.state_laws.numbers.Goals as goal

pub returns-clause-held : goal.returns-clause-held
returns-clause-held c = held_number

pub returns-clause-interval : goal.returns-clause-interval
returns-clause-interval c = interval_number

pub returns-clause-waiting : goal.returns-clause-waiting
returns-clause-waiting c = waiting_number
