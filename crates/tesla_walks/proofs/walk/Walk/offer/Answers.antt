use Rattle.tesla_walks.proofs.Reached.{offered}
use Rattle.tesla_walks.proofs.walk.Walk.offer.Goals as goal

pub returns-clause-value : goal.returns-clause-value
returns-clause-value g c =
    offered c.args.verifier.now _ c.args.self.now c.self.inside.key c.self.inside.mac c.offer_prepared.result c.self.invariant c.self.view_is c.requires c.offer_prepared.ensures.value
