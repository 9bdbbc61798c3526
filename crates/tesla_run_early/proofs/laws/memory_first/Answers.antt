use Rattle.tesla_run_replay.proofs.Under.{memory_first}
use Rattle.tesla_run_early.specs.Early.{meaning}
use Rattle.tesla_run_early.proofs.laws.memory_first.Goals as goal

pub returns : goal.returns
returns c = λ cfg. memory_first (meaning cfg) (λ never. never)
