use Rattle.tesla_rollover.proofs.Spelled.{read_spelled, spelled_read}
use Rattle.tesla_rollover.proofs.laws.handover.Goals as goal

pub returns : goal.returns
returns c = λ payload text. (read_spelled payload text, spelled_read payload text)
