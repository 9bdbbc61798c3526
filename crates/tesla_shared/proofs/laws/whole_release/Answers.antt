use Rattle.tesla_shared.proofs.Released.{are_released}
use Rattle.tesla_shared.proofs.laws.whole_release.Goals as goal

pub returns-clause-written : goal.returns-clause-written
returns-clause-written g c links sinks are =
    (are_released _ c.args.last.now.history c.args.last.now.passes links sinks are c.requires.calls (g.met.V.Receiving.legal_is _ _ (g.met.V.Station.legal _ _ c.requires.stands))).written

pub returns-clause-complete : goal.returns-clause-complete
returns-clause-complete g c links sinks are =
    (are_released _ c.args.last.now.history c.args.last.now.passes links sinks are c.requires.calls (g.met.V.Receiving.legal_is _ _ (g.met.V.Station.legal _ _ c.requires.stands))).complete
