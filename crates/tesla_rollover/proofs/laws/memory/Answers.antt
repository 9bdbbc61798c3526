use Rattle.std.proofs.Common.{ap}
use Rattle.tesla_rollover.specs.Replies.{had_memory}
use Rattle.tesla_rollover.proofs.Memory.{memory_alike, memory_matters}
use Rattle.tesla_rollover.proofs.laws.memory.Goals as goal

pub returns-clause-wanting : goal.returns-clause-wanting
returns-clause-wanting c = λ configs epoch payload none. (memory_matters configs epoch payload (ap had_memory none)).1

pub returns-clause-alike : goal.returns-clause-alike
returns-clause-alike c = memory_alike
