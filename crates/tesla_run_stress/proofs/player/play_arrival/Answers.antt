use Rattle.tesla_capture.specs.Capture.{Arrives}
use Rattle.tesla_run_stress.proofs.Histories.{played_more}
use Rattle.tesla_run_stress.proofs.player.play_arrival.Goals as goal

pub returns-clause-played : goal.returns-clause-played
returns-clause-played g c cfg records was =
    played_more cfg records (Arrives c.args.reading c.args.datagram.now) _ _ was c.arrive.ensures.config c.arrive.ensures.stands
