use Rattle.tesla_capture.specs.Capture.{Takes}
use Rattle.tesla_run_stress.proofs.Histories.{played_more}
use Rattle.tesla_run_stress.proofs.player.play_take.Goals as goal

pub returns-clause-played : goal.returns-clause-played
returns-clause-played c cfg records was = played_more cfg records Takes _ _ was c.take.ensures.config c.take.ensures.stands
