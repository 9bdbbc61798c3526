use Rattle.tesla_run_weave.proofs.Runs.{out_unasked, stopped_causes}
use Rattle.tesla_run_weave.proofs.writing.write_woven.Goals as goal

pub returns-in_default-clause-opens : goal.returns-in_default-clause-opens
returns-in_default-clause-opens g c = out_unasked c.args.name.now (g.D.Environment.told c.args.desk.now)

pub returns-clause-causes : goal.returns-clause-causes
returns-clause-causes g c = stopped_causes c.in-Err.fault _ _ c.in-Err.ensures.causes
