use Rattle.std.proofs.Common.{rules}
use Rattle.tesla_turn.proofs.StepsKept.{draws}
use Rattle.tesla_turn.proofs.seats.draw.Goals as goal

pub fetch_add-requires : goal.fetch_add-requires
fetch_add-requires g c = let ready = c.requires.ready in (search rules, search rules, draws g.V.Chronicle.config g.V.Chronicle.stands g.V.Permitting.permits _ _ _ _ _ ready.0.0 ready.1 ready.0.1 ready.2)
