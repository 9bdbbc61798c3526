use Rattle.tesla_rollover.proofs.Epochs.{epoch_legal}
use Rattle.tesla_rollover.proofs.laws.epochs.Goals as goal

pub returns : goal.returns
returns c = epoch_legal
