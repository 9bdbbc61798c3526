use Rattle.tesla_receiver.proofs.Takes.{reply_same, stands_took}
use Rattle.tesla_receiver.proofs.state_laws.takes.Goals as goal

pub returns-clause-reply : goal.returns-clause-reply
returns-clause-reply c = reply_same

pub returns-clause-stands : goal.returns-clause-stands
returns-clause-stands c = stands_took
