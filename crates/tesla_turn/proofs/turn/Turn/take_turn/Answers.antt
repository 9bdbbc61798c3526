use Rattle.std.proofs.Common.{[], sym, subst, ap, ◌∙◌}
use Rattle.tesla_turn.specs.declared.view.View.{View}
use Rattle.tesla_turn.specs.Held.{Held, held, Made}
use Rattle.tesla_turn.specs.Steps.{Mine, with_call}
use Rattle.tesla_turn.specs.Permitted.{MayAdd, OnlyPermitted}
use Rattle.tesla_turn.proofs.Calling.{made_by, may_still, permitted_by}
use Rattle.tesla_turn.proofs.turn.Turn.take_turn.Goals as goal

pub returns-clause-history : goal.returns-clause-history
returns-clause-history g c = let now = c.hand_on.ensures in let back = c.put_back.ensures in let entered = c.enter-value.ensures in let v = c.pass.inside.seat in let e = g.A.Act.entry c.run-reply.new.self c.run-reply.result in
    subst (λ (p : Held g.row.V-Config.Denot g.row.V-Entry.Denot). Made p (held c.hand_on.new.seat.table_id c.hand_on.new.seat.me.0) e) c.pass.view_is
    (subst (λ (m : Mine g.row.V.Denot g.row.V-Config.Denot g.row.V-Entry.Denot). Made (held v.table_id v.me.0) (held c.hand_on.new.seat.table_id m.0) e) (sym (now.1 ∙ ap (λ m. (with_call m.0 e, [])) back.1))
    (made_by g.V.Chronicle.config g.V.Chronicle.stands g.V.Permitting.permits v.table_id c.hand_on.new.seat.table_id v.me.0 c.enter-value.new.seat.me.0 entered.2.0 c.enter-value.result e (now.0.0 ∙ (back.0.0 ∙ entered.0.0)) entered.2.1))

pub hand_on-requires-clause-permitted : goal.hand_on-requires-clause-permitted
hand_on-requires-clause-permitted g c =
    let permits = g.V.Permitting.permits in
    let back = c.put_back.ensures in
    let reached = c.enter-value.ensures.2 in
    let v = c.pass.inside.seat in
    let u = c.enter-value.new.seat.me.0 in
    let e = g.A.Act.entry c.run-reply.new.self c.run-reply.result in
    let turn = c.put_back.new.seat.table_id in
    let may = c.requires.permitted c.run-reply.new.self c.run-reply.result c.run-reply.ensures.relation in
    subst (λ (w : View g.row.V-Config.Denot g.row.V-Entry.Denot). MayAdd permits (held turn w) e)
    (sym (ap (λ m. m.0) back.1))
    (may_still g.V.Chronicle.config g.V.Chronicle.stands permits v.table_id turn c.args.pass.now v.me.0 u reached.0
    c.enter-value.result e c.pass.view_is reached.1 may)

pub returns-clause-permitted : goal.returns-clause-permitted
returns-clause-permitted g c =
    let permits = g.V.Permitting.permits in
    let now = c.hand_on.ensures in
    let back = c.put_back.ensures in
    let reached = c.enter-value.ensures.2 in
    let v = c.pass.inside.seat in
    let u = c.enter-value.new.seat.me.0 in
    let e = g.A.Act.entry c.run-reply.new.self c.run-reply.result in
    let turn = c.hand_on.new.seat.table_id in
    let may = c.requires.permitted c.run-reply.new.self c.run-reply.result c.run-reply.ensures.relation in
    subst (λ (m : Mine g.row.V.Denot g.row.V-Config.Denot g.row.V-Entry.Denot). OnlyPermitted permits (held turn m.0))
    (sym (now.1 ∙ ap (λ m. (with_call m.0 e, [])) back.1))
    (permitted_by g.V.Chronicle.config g.V.Chronicle.stands permits v.table_id turn c.args.pass.now v.me.0 u reached.0
    c.enter-value.result e c.pass.view_is reached.1 may)
