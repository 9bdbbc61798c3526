use Rattle.tesla_run_replay.proofs.Under.{memory_first}
use Rattle.tesla_run_audit.specs.trace.Trace.{meaning}
use Rattle.tesla_run_audit.proofs.trace.laws.memory_first.Goals as goal

pub returns : goal.returns
returns c = λ cfg. memory_first (meaning cfg) (λ never. never)
