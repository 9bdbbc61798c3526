use Rattle.tesla_run_stress.proofs.Accepted.{disclosure_accepted, message_accepted}
use Rattle.tesla_run_stress.proofs.load_laws.accepted.Goals as goal

pub returns-clause-messages : goal.returns-clause-messages
returns-clause-messages c = message_accepted

pub returns-clause-disclosure : goal.returns-clause-disclosure
returns-clause-disclosure c = disclosure_accepted
