use Rattle.tesla_world.proofs.Early.{insecure}
use Rattle.tesla_world.proofs.laws.disclosed_early.Goals as goal

pub returns : goal.returns
returns c = insecure
