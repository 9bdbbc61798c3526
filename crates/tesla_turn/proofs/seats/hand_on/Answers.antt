use Rattle.std.proofs.Common.{rules}
use Rattle.tesla_turn.proofs.StepsKept.{hands_on}
use Rattle.tesla_turn.proofs.seats.hand_on.Goals as goal

pub fetch_add-requires : goal.fetch_add-requires
fetch_add-requires g c = let acts = c.requires.acts in let back = c.requires.back in (
  search rules,
  search rules,
  hands_on g.V.Chronicle.config g.V.Chronicle.stands g.V.Permitting.permits _ _ _ _ _ acts.0 back.0 _ (g.A.Act.entry c.args._act.now c.args._reply.now) c.requires.entry acts.1 back.3 back.1 back.2 c.requires.left c.requires.permitted,
)
