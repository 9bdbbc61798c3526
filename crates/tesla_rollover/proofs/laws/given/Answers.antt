use Rattle.tesla_rollover.proofs.Epochs.{given_released}
use Rattle.tesla_rollover.proofs.laws.given.Goals as goal

pub returns : goal.returns
returns c = given_released
