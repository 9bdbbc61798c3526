use Rattle.tesla_follow.proofs.Accepting.{promised_in}
use Rattle.tesla_follow.proofs.InOrder.{in_order}
use Rattle.tesla_follow.proofs.laws.early.Goals as goal

pub returns-clause-promised : goal.returns-clause-promised
returns-clause-promised c = promised_in

pub returns-clause-order : goal.returns-clause-order
returns-clause-order c = in_order
