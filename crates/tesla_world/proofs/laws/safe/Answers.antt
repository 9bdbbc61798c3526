use Rattle.tesla_world.proofs.Security.{secure}
use Rattle.tesla_world.proofs.laws.safe.Goals as goal

pub returns : goal.returns
returns c = secure c.kept.ensures c.frames.ensures.only
