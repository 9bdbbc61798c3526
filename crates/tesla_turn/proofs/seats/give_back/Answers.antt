use Rattle.std.proofs.Common.{rules}
use Rattle.tesla_turn.proofs.StepsKept.{gives_back}
use Rattle.tesla_turn.proofs.seats.give_back.Goals as goal

pub load-requires : goal.load-requires
load-requires g c = let acts = c.requires.acts in (search rules, search rules, gives_back g.V.Chronicle.config g.V.Chronicle.stands g.V.Permitting.permits _ _ _ _ _ acts.1 acts.0.0 _ acts.2 acts.0.1 acts.3)
