use Rattle.std.proofs.Common.{inl, inr, refl}
use Rattle.tesla_session.specs.Session.{workers_of}
use Rattle.tesla_session.proofs.Sessions.{opened_same}
use Rattle.tesla_run_receive.proofs.live.run_behind.Goals as goal

pub run_begun-requires-clause-opened : goal.run_begun-requires-clause-opened
run_begun-requires-clause-opened g c κs within =
    let (wanted, cfg, before, opens, fits) = c.requires.opened in
    (wanted, cfg, before, g.D.Environment.told c.args.desk.now, c.args.extra, opens, c.in-Ok.ensures.begun cfg fits)

pub returns-in-Ok : goal.returns-in-Ok
returns-in-Ok g c wanted cfg before opens fits =
    let session = c.args.session in
    let workers = workers_of session.links.items session.sinks.items in
    let opened = g.D.Environment.told c.args.desk.now in
    inr (inr (record {
      turn = session.turn;
      first = session.first;
      workers = workers;
      opened = opened;
      opens = opens;
      running = g.D.Environment.told c.begin.new.desk;
      behind = c.in-Ok.ensures.opened;
      runs = c.run_begun.ensures cfg c.args.extra (opened_same wanted cfg before opened session.turn session.first workers opens).config (c.in-Ok.ensures.begun cfg fits);
    }))

pub returns-in-Err : goal.returns-in-Err
returns-in-Err g c wanted cfg before opens fits =
    let session = c.args.session in
    inr (inl (record {
      fault = c.in-Err.fault;
      refused = inr (record {
        turn = session.turn;
        first = session.first;
        later = c.close_all.ensures.0;
        workers = workers_of session.links.items session.sinks.items;
        opened = g.D.Environment.told c.args.desk.now;
        opens = opens;
        tried = g.D.Environment.told c.begin.new.desk;
        refuses = c.in-Err.ensures.refused c.in-Err.fault refl;
        closes = c.close_all.ensures.1;
      });
      none = refl;
      outcome_is = refl;
    }))
