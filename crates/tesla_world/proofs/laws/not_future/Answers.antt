use Rattle.tesla_world.proofs.Future.{not_future}
use Rattle.tesla_world.proofs.laws.not_future.Goals as goal

pub returns : goal.returns
returns c = not_future c.frames.ensures.only
