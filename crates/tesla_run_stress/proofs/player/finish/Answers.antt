use Rattle.tesla_run_stress.proofs.Histories.{finished}
use Rattle.tesla_run_stress.proofs.player.finish.Goals as goal

pub returns : goal.returns
returns c cfg records was =
    finished cfg records _ _ _ c.waiting-waiting.result c.report.result was c.waiting-waiting.ensures.value c.end.ensures.config c.end.ensures.stands c.take_times.ensures.stands c.report.ensures.value
