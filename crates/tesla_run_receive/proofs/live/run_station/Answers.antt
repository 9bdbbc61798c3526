use Rattle.tesla_run_receive.proofs.live.run_station.Goals as goal

pub returns-in-Ok : goal.returns-in-Ok
returns-in-Ok g c = c.run_session.ensures (g.V.Chronicle.config c.args.station) c.in-Ok.ensures.first c.requires.fits
