use Rattle.std.proofs.Common.{refl}
use Rattle.tesla_receiver.specs.History.{Takes}
use Rattle.tesla_world.proofs.Standing.{had_by}
use Rattle.tesla_world.proofs.joint.Joint.take.Goals as goal

pub returns-clause-takes : goal.returns-clause-takes
returns-clause-takes c =
    let s = c.self.inside in
    had_by s.sender s.receiver s.frames.sent s.frames.reserved c.args.self.now c.self.view_is c.take.new.self (Takes 0) (λ h. refl) c.take.ensures.config c.take.ensures.calls c.take.ensures.stands
