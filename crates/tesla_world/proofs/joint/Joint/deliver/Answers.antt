use Rattle.std.proofs.Common.{◌≡◌, List, Option, Some, ℕ, ap, subst, sym, ◌∙◌}
use Rattle.std.specs.Prelude.{Ok, slice_get}
use Rattle.tesla_world.specs.Joint.{Delivers, JointState}
use Rattle.tesla_world.proofs.Standing.{come_by}
use Rattle.tesla_world.proofs.joint.Joint.deliver.Goals as goal

pub returns-in-Some-clause-delivers : goal.returns-in-Some-clause-delivers
returns-in-Some-clause-delivers g c =
    let s = c.self.inside in
    let a = c.args in
    let at : slice_get s.frames.sent a.number ≡ Some c.in-Some.frame.now = sym c.in-Some.ensures in
    let there : slice_get a.self.now.frames a.number ≡ Some c.in-Some.frame.now = ap (λ (joint : JointState). slice_get joint.frames a.number) (sym c.self.view_is) ∙ at in
    subst (λ (found : Option (List ℕ)). Delivers a.self.now (record { sender = s.sender; receiver = c.arrive.new.self; frames = s.frames.sent; reserved = s.frames.reserved }) a.reading found (Ok c.arrive.result)) (sym there)
    (come_by s.sender s.receiver s.frames.sent s.frames.reserved a.self.now c.self.view_is c.arrive.new.self a.reading c.in-Some.frame.now c.arrive.result c.arrive.ensures.config c.arrive.ensures.calls c.arrive.ensures.answer c.arrive.ensures.stands)
