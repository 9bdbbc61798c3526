use Rattle.std.proofs.Common.{◌≡◌, ◌∙◌, ap, subst}
use Rattle.tesla_session.specs.Session.{join_pass}
use Rattle.tesla_session.proofs.Closings.{closes_seen, are_of_prefix, are_of_last}
use Rattle.tesla_session.proofs.session.+close_each.Goals as goal

pub join-requires-clause-own : goal.join-requires-clause-own
join-requires-clause-own g t c =
    let last = are_of_last g.W.DeskWorker.seen c.args.turn.now c.pop.new.self.items c.in-Some.worker (rw c.in-Some.ensures.items at c.requires.others) in
    (c.requires.own, ap (λ p. p.turn) c.close-pass.ensures.pass ∙ last)

pub close_each-requires-clause-others : goal.close_each-requires-clause-others
close_each-requires-clause-others g t c κs within = are_of_prefix g.W.DeskWorker.seen c.args.turn.now c.pop.new.self.items c.in-Some.worker (rw c.in-Some.ensures.items at c.requires.others)

pub returns-clause-closes : goal.returns-clause-closes
returns-clause-closes g t c =
    let told = g.D.Environment.told in let first = c.args.first.now in let joined = c.join.new.into in
    let joins = subst (λ pass. joined ≡ join_pass first pass) c.close-pass.ensures.pass c.join.ensures in
    rw c.in-Some.ensures.items
    (closes_seen g.W.DeskWorker.seen c.pop.new.self.items c.in-Some.worker (told c.args.desk.now) (told c.close-pass.new.desk) (told c.close_each.new.desk) first joined c.close_each.new.first c.close-pass.ensures.closes joins c.close_each.ensures.closes)
