use Rattle.tesla_early.proofs.Prefixes.{early_grows, learnt_grows}
use Rattle.tesla_early.proofs.laws.prefixes.Goals as goal

pub returns-clause-promises : goal.returns-clause-promises
returns-clause-promises c = learnt_grows

pub returns-clause-early : goal.returns-clause-early
returns-clause-early c = early_grows
