use Rattle.tesla_early.proofs.Authentic.{gave_released, reaches_released}
use Rattle.tesla_early.proofs.laws.authentic.Goals as goal

pub returns-clause-released : goal.returns-clause-released
returns-clause-released c = gave_released

pub returns-clause-reaches : goal.returns-clause-reaches
returns-clause-reaches c = reaches_released
