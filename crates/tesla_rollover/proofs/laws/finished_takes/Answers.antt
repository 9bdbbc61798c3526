use Rattle.tesla_rollover.proofs.Finishing.{roll_finishes}
use Rattle.tesla_rollover.proofs.laws.finished_takes.Goals as goal

pub returns : goal.returns
returns c = roll_finishes
