use Rattle.tesla_receiver.proofs.Arriving.{verdict_judged, stands_arrived}
use Rattle.tesla_receiver.proofs.state_laws.arrivals.Goals as goal

pub returns-clause-verdict : goal.returns-clause-verdict
returns-clause-verdict c = verdict_judged

pub returns-clause-stands : goal.returns-clause-stands
returns-clause-stands c = stands_arrived
