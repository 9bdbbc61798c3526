use Rattle.tesla_world.proofs.Standing.{joint_lawful}
use Rattle.tesla_world.proofs.joint.each_is_lawful.Goals as goal

pub returns : goal.returns
returns c = joint_lawful c.safe.ensures c.complete.ensures c.not_future.ensures
