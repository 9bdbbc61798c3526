use Rattle.tesla_run_ask.proofs.Runs.{stopped_causes}
use Rattle.tesla_run_ask.proofs.writing.write_message.Goals as goal

pub returns-in-Err-clause-causes : goal.returns-in-Err-clause-causes
returns-in-Err-clause-causes g c = stopped_causes c.in-Err.fault _ _ c.in-Err.ensures.causes
