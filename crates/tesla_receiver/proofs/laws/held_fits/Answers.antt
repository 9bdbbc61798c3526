use Rattle.tesla_receiver.proofs.Limits.{capacity_kept, quota_kept}
use Rattle.tesla_receiver.proofs.laws.held_fits.Goals as goal

pub returns-clause-capacity : goal.returns-clause-capacity
returns-clause-capacity c = capacity_kept

pub returns-clause-quota : goal.returns-clause-quota
returns-clause-quota c = quota_kept
