use Rattle.tesla_receiver.proofs.Events.{after_one, after_grows, legal_after_events}
use Rattle.tesla_receiver.proofs.laws.events.Goals as goal

pub returns-clause-one : goal.returns-clause-one
returns-clause-one c = after_one

pub returns-clause-prefix : goal.returns-clause-prefix
returns-clause-prefix c = after_grows

pub returns-clause-legal : goal.returns-clause-legal
returns-clause-legal c = legal_after_events
