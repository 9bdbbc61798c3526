use Rattle.tesla_follow.proofs.Lawful.{epoch_lawful}
use Rattle.tesla_follow.proofs.laws.epochs.Goals as goal

pub returns : goal.returns
returns c cfg h epoch = (epoch_lawful cfg h epoch).legal
