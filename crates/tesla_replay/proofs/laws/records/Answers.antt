use Rattle.tesla_replay.proofs.Records.{records_both}
use Rattle.tesla_replay.proofs.laws.records.Goals as goal

pub returns : goal.returns
returns c = records_both
