use Rattle.tesla_session.specs.Session.{SeenLink, SeenSink}
use Rattle.tesla_session.proofs.Runs.{ready_at, turn_at}
use Rattle.tesla_session.proofs.running.run_workers.Goals as goal

pub run_beside-requires-clause-last : goal.run_beside-requires-clause-last
run_beside-requires-clause-last g c κs within = λ i d inside.
    (turn_at SeenSink c.args.turn.now c.args.sinks.now i d inside c.requires.sinks, ready_at SeenSink c.args.sinks.now i d inside c.requires.ready_sinks)

pub run_beside-requires-clause-first : goal.run_beside-requires-clause-first
run_beside-requires-clause-first g c κs within = λ i d inside.
    (turn_at SeenLink c.args.turn.now c.args.links.now i d inside c.requires.links, ready_at SeenLink c.args.links.now i d inside c.requires.ready_links)
