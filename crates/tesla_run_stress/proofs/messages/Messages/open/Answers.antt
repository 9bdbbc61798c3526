use Rattle.tesla_run_stress.proofs.Texts.{keeps_none}
use Rattle.tesla_run_stress.proofs.messages.Messages.open.Goals as goal

pub returns-clause-kept : goal.returns-clause-kept
returns-clause-kept g c = keeps_none c.args.count _ c.in_ok-with_capacity.ensures
