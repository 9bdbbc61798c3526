use Rattle.tesla_early.proofs.Genuine.{early_genuine}
use Rattle.tesla_early.proofs.laws.genuine.Goals as goal

pub returns : goal.returns
returns c = early_genuine
