use Rattle.tesla_world.proofs.Standing.{come_by}
use Rattle.tesla_world.proofs.joint.Joint.inject.Goals as goal

pub returns-clause-comes : goal.returns-clause-comes
returns-clause-comes g c =
    let s = c.self.inside in
    come_by s.sender s.receiver s.frames.sent s.frames.reserved c.args.self.now c.self.view_is c.arrive.new.self c.args.reading c.args.bytes.now c.arrive.result c.arrive.ensures.config c.arrive.ensures.calls c.arrive.ensures.answer c.arrive.ensures.stands
