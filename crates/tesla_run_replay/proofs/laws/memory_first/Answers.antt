use Rattle.tesla_run_replay.specs.Replay.{meaning}
use Rattle.tesla_run_replay.proofs.Under.{memory_first}
use Rattle.tesla_run_replay.proofs.laws.memory_first.Goals as goal

pub returns : goal.returns
returns c = λ cfg. memory_first (meaning cfg) (λ never. never)
