use Rattle.tesla_early.proofs.Spelled.{plain_has_none, promise_exact}
use Rattle.tesla_early.proofs.payload_laws.promises.Goals as goal

pub returns-clause-exact : goal.returns-clause-exact
returns-clause-exact c = promise_exact

pub returns-clause-plain : goal.returns-clause-plain
returns-clause-plain c = plain_has_none
