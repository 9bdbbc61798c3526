use Rattle.std.proofs.Common.{Some, sym, subst, ap, ◌∙◌}
use Rattle.tesla_turn.specs.Held.{TurnId}
use Rattle.tesla_turn.specs.History.{HasCalls}
use Rattle.tesla_session.specs.Session.{AreOf, ClosesWorkers, workers_of}
use Rattle.tesla_session.proofs.Sessions.{closes_same, opened_of, opened_ready, opened_same, runs_of}
use Rattle.tesla_session.specs.Worked.{StandsForCalls}
use Rattle.tesla_session.proofs.engine.run_opened.Goals as goal

pub run_all-stop-requires-clause-own : goal.run_all-stop-requires-clause-own
run_all-stop-requires-clause-own g c κs within =
    let session = c.args.session in
    let (wanted, cfg, before, now, opens) = c.requires in
    opened_of wanted cfg before now session.turn session.first (workers_of session.links.items session.sinks.items) opens

pub run_all-stop-requires-clause-ready : goal.run_all-stop-requires-clause-ready
run_all-stop-requires-clause-ready g c κs within =
    let session = c.args.session in
    let (wanted, cfg, before, now, opens) = c.requires in
    opened_ready wanted cfg before now session.turn session.first (workers_of session.links.items session.sinks.items) opens

pub close_workers-turn-requires-clause-own : goal.close_workers-turn-requires-clause-own
close_workers-turn-requires-clause-own g c κs within =
    let session = c.args.session in
    let (wanted, cfg, before, now, opens) = c.requires in
    ap (λ p. p.turn) c.run_all-stop.ensures.same.1 ∙ (opened_same wanted cfg before now session.turn session.first (workers_of session.links.items session.sinks.items) opens).turn ∙ sym c.run_all-stop.ensures.same.0

pub close_workers-turn-requires-clause-first : goal.close_workers-turn-requires-clause-first
close_workers-turn-requires-clause-first g c κs within =
    let session = c.args.session in
    let (wanted, cfg, before, now, opens) = c.requires in
    ap (λ p. p.number) c.run_all-stop.ensures.same.1 ∙ (opened_same wanted cfg before now session.turn session.first (workers_of session.links.items session.sinks.items) opens).number

pub close_workers-turn-requires-clause-others : goal.close_workers-turn-requires-clause-others
close_workers-turn-requires-clause-others g c κs within =
    let old = c.args.session in
    let done = c.run_all-stop.new.session in
    let (wanted, cfg, before, now, opens) = c.requires in
    subst (λ (turn : TurnId). AreOf turn (workers_of done.links.items done.sinks.items)) (sym c.run_all-stop.ensures.same.0)
    (runs_of g.V.Station.yields old.turn (workers_of old.links.items old.sinks.items) (workers_of done.links.items done.sinks.items) c.run_all-stop.ensures.runs
    (opened_of wanted cfg before now old.turn old.first (workers_of old.links.items old.sinks.items) opens))

pub close-station-requires-clause-own : goal.close-station-requires-clause-own
close-station-requires-clause-own g c =
    let old = c.args.session in
    let done = c.run_all-stop.new.session in
    let (wanted, cfg, before, now, opens) = c.requires in
    (closes_same (workers_of done.links.items done.sinks.items) (g.D.Environment.told c.args.desk.now) (g.D.Environment.told c.close_workers-turn.new.desk) done.first c.close_workers-turn.result.1 c.close_workers-turn.ensures.closes).turn
    ∙ ap (λ p. p.turn) c.run_all-stop.ensures.same.1 ∙ (opened_same wanted cfg before now old.turn old.first (workers_of old.links.items old.sinks.items) opens).turn ∙ sym c.run_all-stop.ensures.same.0 ∙ sym c.close_workers-turn.ensures.turn

pub close-station-requires-clause-first : goal.close-station-requires-clause-first
close-station-requires-clause-first g c =
    let old = c.args.session in
    let done = c.run_all-stop.new.session in
    let (wanted, cfg, before, now, opens) = c.requires in
    (closes_same (workers_of done.links.items done.sinks.items) (g.D.Environment.told c.args.desk.now) (g.D.Environment.told c.close_workers-turn.new.desk) done.first c.close_workers-turn.result.1 c.close_workers-turn.ensures.closes).number
    ∙ ap (λ p. p.number) c.run_all-stop.ensures.same.1 ∙ (opened_same wanted cfg before now old.turn old.first (workers_of old.links.items old.sinks.items) opens).number

pub returns-clause-runs : goal.returns-clause-runs
returns-clause-runs g c =
    let done = c.run_all-stop.new.session in
    let workers = workers_of done.links.items done.sinks.items in
    let later = c.close_workers-turn.result.1 in
    let old = g.D.Environment.told c.args.desk.now in
    let new = g.D.Environment.told c.close_workers-turn.new.desk in record {
      later = later;
      done = workers;
      runs = c.run_all-stop.ensures.runs;
      closes = subst (λ p. ClosesWorkers workers old new p later) c.run_all-stop.ensures.same.1 c.close_workers-turn.ensures.closes;
      passes = ap (λ last. last.passes) c.of_value.ensures ∙ c.close-station.ensures.passes;
      calls = subst (λ last. HasCalls last.history last.passes) (sym c.of_value.ensures) c.close-station.ensures.calls;
      stop_is = c.run_all-stop.ensures.stop;
    }

pub returns-clause-stands : goal.returns-clause-stands
returns-clause-stands g c =
    let closed = c.close-station in
    let read_for = g.D.Time.Clock.read_for in
    subst (λ station. StandsForCalls g.V.Chronicle.config g.V.Chronicle.stands g.V.Station.ingests read_for station c.of_value.result.history) (sym c.into_station.ensures)
    (subst (λ last. StandsForCalls g.V.Chronicle.config g.V.Chronicle.stands g.V.Station.ingests read_for closed.result.0.station last.history) (sym c.of_value.ensures)
    (record { stood = closed.ensures.value.0; calls = closed.ensures.permitted }))

pub returns-clause-config : goal.returns-clause-config
returns-clause-config g c =
    let done = c.run_all-stop.new.session in
    sym (ap (λ p. p.config) c.run_all-stop.ensures.same.1)
    ∙ sym (closes_same (workers_of done.links.items done.sinks.items) (g.D.Environment.told c.args.desk.now) (g.D.Environment.told c.close_workers-turn.new.desk) done.first c.close_workers-turn.result.1 c.close_workers-turn.ensures.closes).config
    ∙ c.close-station.ensures.value.1
    ∙ ap (λ station. Some (g.V.Chronicle.config station)) (sym c.into_station.ensures)
