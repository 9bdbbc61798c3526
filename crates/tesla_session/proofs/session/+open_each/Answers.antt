use Rattle.std.proofs.Common.{[], Err, sym, refl, append-nil}
use Rattle.tesla_session.proofs.Allowed.{allowed_first, allowed_others}
use Rattle.tesla_session.proofs.Openings.{opens_first, opens_none, refuses_first}
use Rattle.tesla_session.proofs.session.+open_each.Goals as goal

pub returns-in_default : goal.returns-in_default
returns-in_default g t c = ([], sym (append-nil c.args.workers.now.items), opens_none g.W.DeskWorker.wanted c.args.number c.args.names.now (g.D.Environment.told c.args.desk.now) c.args.first.now c.in_default.len_below)

pub returns-in-Ok : goal.returns-in-Ok
returns-in-Ok g t c =
    let told = g.D.Environment.told in
    opens_first g.W.DeskWorker.wanted g.W.DeskWorker.seen (told c.args.desk.now) (told c.open.new.desk) (told c.open_each.new.desk) c.args.first.now c.open.new.first c.open_each.new.first c.args.number c.args.names.now _ c.in-Ok.worker
    c.args.workers.now.items c.push_reserved.new.self.items c.open_each.new.workers.items c.open_each.result c.in-len1-up.len_at_least c.in-Ok.ensures.opened c.push_reserved.ensures.items c.open_each.ensures

pub returns-in-Err : goal.returns-in-Err
returns-in-Err g t c =
    let told = g.D.Environment.told in let fault = c.in-Err.fault in
    let refused = c.in-Err.ensures.refused fault (refl {a = Err fault}) in
    ([], sym (append-nil c.args.workers.now.items), refuses_first g.W.DeskWorker.wanted (told c.args.desk.now) (told c.open.new.desk) c.args.first.now c.open.new.first fault c.args.number c.args.names.now _ c.in-len1-up.len_at_least refused.0 refused.1)

pub open-requires-clause-allowed : goal.open-requires-clause-allowed
open-requires-clause-allowed g t c = allowed_first g.W.DeskWorker.allowed c.args.first.now c.args.number c.args.names.now _ c.in-len1-up.len_at_least c.requires.allowed

pub open_each-requires-clause-allowed : goal.open_each-requires-clause-allowed
open_each-requires-clause-allowed g t c κs within =
    allowed_others g.W.DeskWorker.allowed _ _ _ c.args.first.now c.open.new.first _ c.args.number c.args.names.now c.in-len1-up.len_at_least c.in-Ok.ensures.opened c.requires.allowed
