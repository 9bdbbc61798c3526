use Rattle.tesla_session.specs.Session.{workers_of}
use Rattle.tesla_session.proofs.Sessions.{opened_of, opened_same}
use Rattle.tesla_session.proofs.engine.close_all.Goals as goal

pub close_workers-turn-requires-clause-own : goal.close_workers-turn-requires-clause-own
close_workers-turn-requires-clause-own g c κs within =
    let session = c.args.session in
    let (wanted, cfg, before, now, opens) = c.requires in
    (opened_same wanted cfg before now session.turn session.first (workers_of session.links.items session.sinks.items) opens).turn

pub close_workers-turn-requires-clause-first : goal.close_workers-turn-requires-clause-first
close_workers-turn-requires-clause-first g c κs within =
    let session = c.args.session in
    let (wanted, cfg, before, now, opens) = c.requires in
    (opened_same wanted cfg before now session.turn session.first (workers_of session.links.items session.sinks.items) opens).number

pub close_workers-turn-requires-clause-others : goal.close_workers-turn-requires-clause-others
close_workers-turn-requires-clause-others g c κs within =
    let session = c.args.session in
    let (wanted, cfg, before, now, opens) = c.requires in
    opened_of wanted cfg before now session.turn session.first (workers_of session.links.items session.sinks.items) opens
