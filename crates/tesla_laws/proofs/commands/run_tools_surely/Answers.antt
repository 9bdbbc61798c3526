use Rattle.tesla_front.proofs.Statuses.{never_failed}
use Rattle.tesla_laws.proofs.commands.run_tools_surely.Goals as goal

pub returns-clause-unfailed : goal.returns-clause-unfailed
returns-clause-unfailed c = never_failed c.run_tools.result c.run_tools.ensures.causes
