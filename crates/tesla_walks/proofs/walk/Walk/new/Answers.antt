use Rattle.tesla_walks.proofs.Reached.{begins}
use Rattle.tesla_walks.proofs.walk.Walk.new.Goals as goal

pub invariant_of-result : goal.invariant_of-result
invariant_of-result c = begins c.args.row c.new.result c.new.ensures
