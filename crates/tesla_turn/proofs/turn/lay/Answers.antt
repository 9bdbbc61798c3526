use Rattle.std.proofs.Common.{refl}
use Rattle.tesla_turn.proofs.StepsKept.{starts}
use Rattle.tesla_turn.proofs.turn.lay.Goals as goal

pub new-requires : goal.new-requires
new-requires g c = let plan = c.args.plan.now in rw c.requires.slots (starts g.V.Chronicle.config g.V.Chronicle.stands g.V.Permitting.permits (g.V.Chronicle.config plan.value.value) plan.calls plan.value.value plan.passes c.requires.plan.0 refl c.requires.plan.2)
