use Rattle.tesla_world.proofs.Clocks.{bounded_too, secure_too}
use Rattle.tesla_world.proofs.laws.clocks.Goals as goal

pub returns-clause-bounded : goal.returns-clause-bounded
returns-clause-bounded c = bounded_too

pub returns-clause-undisclosed : goal.returns-clause-undisclosed
returns-clause-undisclosed c = secure_too c.safe.ensures
