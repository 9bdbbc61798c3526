use Rattle.tesla_receiver.proofs.Events.{legal_at}
use Rattle.tesla_receiver.proofs.laws.by_index.Goals as goal

pub returns : goal.returns
returns c = λ cfg h l n e at. legal_at cfg h n e l at
