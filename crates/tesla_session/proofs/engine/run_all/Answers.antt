use Rattle.std.proofs.Common.{◌++◌, length, map, take, drop, sym, subst}
use Rattle.tesla_session.specs.Session.{SeenLink, SeenSink, AreOf, AreReady, RunWorkers, workers_of}
use Rattle.tesla_session.proofs.Sessions.{ready_back, ready_prefix, of_back, of_prefix, runs_both, written_back}
use Rattle.tesla_session.proofs.engine.run_all.Goals as goal

pub run_workers-requires-clause-links : goal.run_workers-requires-clause-links
run_workers-requires-clause-links g c κs within =
    let session = c.args.session.now in
    subst (λ links. AreOf session.turn (map SeenLink links)) (sym c.as_mut_slice.ensures.value) (of_prefix session.turn (map SeenLink session.links.items) (map SeenSink session.sinks.items) c.requires.own)

pub run_workers-requires-clause-ready_links : goal.run_workers-requires-clause-ready_links
run_workers-requires-clause-ready_links g c κs within =
    let session = c.args.session.now in
    subst (λ links. AreReady (map SeenLink links)) (sym c.as_mut_slice.ensures.value) (ready_prefix (map SeenLink session.links.items) (map SeenSink session.sinks.items) c.requires.ready)

pub run_workers-requires-clause-ready_sinks : goal.run_workers-requires-clause-ready_sinks
run_workers-requires-clause-ready_sinks g c κs within =
    let session = c.args.session.now in
    subst (λ sinks. AreReady (map SeenSink sinks)) (sym c.as_mut_slice-2.ensures.value) (ready_back (map SeenLink session.links.items) (map SeenSink session.sinks.items) c.requires.ready)

pub run_workers-requires-clause-sinks : goal.run_workers-requires-clause-sinks
run_workers-requires-clause-sinks g c κs within =
    let session = c.args.session.now in
    subst (λ sinks. AreOf session.turn (map SeenSink sinks)) (sym c.as_mut_slice-2.ensures.value) (of_back session.turn (map SeenLink session.links.items) (map SeenSink session.sinks.items) c.requires.own)

pub returns-clause-runs : goal.returns-clause-runs
returns-clause-runs g c =
    let session = c.args.session.now in
    let links = c.run_workers.new.links in
    let sinks = c.run_workers.new.sinks in
    let old = workers_of session.links.items session.sinks.items in
    subst (λ ws. RunWorkers g.V.Station.yields old (workers_of ws (take session.sinks.len (sinks ++ drop (length sinks) session.sinks.items)))) (sym (written_back g.V.Station.yields SeenLink session.links.items links c.as_mut_slice.result.now session.links.len c.as_mut_slice.ensures.value c.as_mut_slice.ensures.len c.run_workers.ensures.links))
    (subst (λ ws. RunWorkers g.V.Station.yields old (workers_of links ws)) (sym (written_back g.V.Station.yields SeenSink session.sinks.items sinks c.as_mut_slice-2.result.now session.sinks.len c.as_mut_slice-2.ensures.value c.as_mut_slice-2.ensures.len c.run_workers.ensures.sinks))
    (runs_both g.V.Station.yields (map SeenLink session.links.items) (map SeenLink links) (map SeenSink session.sinks.items) (map SeenSink sinks)
    (subst (λ ws. RunWorkers g.V.Station.yields (map SeenLink ws) (map SeenLink links)) c.as_mut_slice.ensures.value c.run_workers.ensures.links)
    (subst (λ ws. RunWorkers g.V.Station.yields (map SeenSink ws) (map SeenSink sinks)) c.as_mut_slice-2.ensures.value c.run_workers.ensures.sinks)))
