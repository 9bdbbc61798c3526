use Rattle.tesla_front.proofs.Statuses.{never_failed}
use Rattle.tesla_laws.proofs.commands.run_surely.Goals as goal

pub returns-clause-unfailed : goal.returns-clause-unfailed
returns-clause-unfailed c = never_failed c.run_here.result c.run_here.ensures.causes
