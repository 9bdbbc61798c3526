use Rattle.tesla_receiver.proofs.Events.{legal_prefix, given_rises}
use Rattle.tesla_receiver.proofs.Prefixes.{released_more, newest_rises}
use Rattle.tesla_receiver.proofs.laws.prefixes.Goals as goal

pub returns-clause-released : goal.returns-clause-released
returns-clause-released c = released_more

pub returns-clause-newest : goal.returns-clause-newest
returns-clause-newest c = newest_rises

pub returns-clause-legal : goal.returns-clause-legal
returns-clause-legal c = legal_prefix

pub returns-clause-given : goal.returns-clause-given
returns-clause-given c = given_rises
