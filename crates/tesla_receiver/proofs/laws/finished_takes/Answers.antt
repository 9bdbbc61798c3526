use Rattle.tesla_receiver.proofs.Finishing.{finishes}
use Rattle.tesla_receiver.proofs.laws.finished_takes.Goals as goal

pub returns : goal.returns
returns c = finishes
