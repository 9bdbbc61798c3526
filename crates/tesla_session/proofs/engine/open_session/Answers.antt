use Rattle.std.proofs.Common.{◌≡◌, ◌+◌, Err, length, sym, subst, ap, ◌∙◌, arith}
use Rattle.tesla_front.specs.declared.fault.Fault.{Fault}
use Rattle.tesla_turn.specs.Held.{TurnId}
use Rattle.tesla_session.specs.Wanted.{wanted_for}
use Rattle.tesla_session.specs.Session.{AreOf, OpensAll, RefusedSession, workers_of}
use Rattle.tesla_session.proofs.Sessions.{opens_all, opens_of, opens_same, session_refused, wants_all}
use Rattle.tesla_session.proofs.engine.open_session.Goals as goal

pub close_workers-turn-requires-clause-own : goal.close_workers-turn-requires-clause-own
close_workers-turn-requires-clause-own g c κs within =
    let done = c.open_all.new.session in
    (opens_same (wanted_for c.args.links.now c.args.sinks.now) (g.D.Environment.told c.args.desk.now) (g.D.Environment.told c.open_all.new.desk) c.args.session.first done.first (workers_of done.links.items done.sinks.items) (Err c.in-Err.fault) c.in-Err.ensures.opens).turn
    ∙ ap (λ p. p.turn) c.requires.first.1 ∙ sym c.in-Err.ensures.turn

pub close_workers-turn-requires-clause-first : goal.close_workers-turn-requires-clause-first
close_workers-turn-requires-clause-first g c κs within =
    let done = c.open_all.new.session in
    (opens_same (wanted_for c.args.links.now c.args.sinks.now) (g.D.Environment.told c.args.desk.now) (g.D.Environment.told c.open_all.new.desk) c.args.session.first done.first (workers_of done.links.items done.sinks.items) (Err c.in-Err.fault) c.in-Err.ensures.opens).number
    ∙ ap (λ p. p.number) c.requires.first.1

pub close_workers-turn-requires-clause-others : goal.close_workers-turn-requires-clause-others
close_workers-turn-requires-clause-others g c κs within =
    let done = c.open_all.new.session in
    let turn : c.args.session.first.turn ≡ done.turn = ap (λ p. p.turn) c.requires.first.1 ∙ sym c.in-Err.ensures.turn in
    subst (λ (t : TurnId). AreOf t (workers_of done.links.items done.sinks.items)) turn
    (opens_of (wanted_for c.args.links.now c.args.sinks.now) (g.D.Environment.told c.args.desk.now) (g.D.Environment.told c.open_all.new.desk) c.args.session.first done.first (workers_of done.links.items done.sinks.items) (Err c.in-Err.fault) c.in-Err.ensures.opens)

pub returns-in-Ok-clause-opened : goal.returns-in-Ok-clause-opened
returns-in-Ok-clause-opened g c cfg first =
    let done = c.open_all.new.session in
    let wanted = wanted_for c.args.links.now c.args.sinks.now in
    let old = g.D.Environment.told c.args.desk.now in
    let new = g.D.Environment.told c.open_all.new.desk in
    subst (λ (t : TurnId). OpensAll wanted cfg old new t done.first (workers_of done.links.items done.sinks.items)) (sym c.in-Ok.ensures.turn)
    (opens_all wanted cfg c.args.session.turn (1 + length c.args.links.now + length c.args.sinks.now) old new c.args.session.first done.first (workers_of done.links.items done.sinks.items) first (omega (arith, wants_all c.args.links.now c.args.sinks.now)) c.in-Ok.ensures.opens)

pub returns-in-Err-clause-refused : goal.returns-in-Err-clause-refused
returns-in-Err-clause-refused g c fault is cfg first =
    let done = c.open_all.new.session in
    let wanted = wanted_for c.args.links.now c.args.sinks.now in
    let old = g.D.Environment.told c.args.desk.now in
    let new = g.D.Environment.told c.close_workers-turn.new.desk in
    let same : c.in-Err.fault ≡ fault = cc in
    subst (λ (f : Fault). RefusedSession g.row.V-Verdict.Denot g.row.V-Reply.Denot wanted cfg old new f) same
    (session_refused wanted cfg c.args.session.turn (1 + length c.args.links.now + length c.args.sinks.now) old (g.D.Environment.told c.open_all.new.desk) new
    c.args.session.first done.first c.close_workers-turn.result.1 (workers_of done.links.items done.sinks.items) c.in-Err.fault first (omega (arith, wants_all c.args.links.now c.args.sinks.now)) c.in-Err.ensures.opens c.close_workers-turn.ensures.closes)
