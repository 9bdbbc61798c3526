use Rattle.std.proofs.Common.{refl}
use Rattle.tesla_run_roll.proofs.Flushed.{flushed_part}
use Rattle.tesla_run_roll.proofs.target.put_given.Goals as goal

pub returns-else-flush-clause-halts : goal.returns-else-flush-clause-halts
returns-else-flush-clause-halts g c failed = flushed_part _ _ _ _ _ (c.if-not-put_marked.ensures.all refl) c.flush.ensures.prefix
