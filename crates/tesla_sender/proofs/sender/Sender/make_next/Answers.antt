use Rattle.std.proofs.Common.{◌≡◌, ◌*◌, length, ◌∙◌, ap, arith}
use Rattle.tesla_chain.specs.Cost.{bits}
use Rattle.tesla_clock.specs.Schedule.{Times}
use Rattle.tesla_sender.specs.Stands.{State}
use Rattle.tesla_sender.proofs.Costs.{next_cost}
use Rattle.tesla_sender.proofs.Senders.{has_next, next_ready}
use Rattle.tesla_sender.proofs.sender.Sender.make_next.Goals as goal

pub advance_all-requires : goal.advance_all-requires
advance_all-requires g c =
    let s = c.self.inside in
    let bound : c.from.result ≡ s.setup.times.last = c.from.ensures ∙ c.last.ensures.value ∙ ap (λ (t : Times). t.last) c.schedule.ensures in
    next_ready s.setup s.chains.items s.latest s.used c.self.invariant (omega (arith, bound, c.if-self-from.true))

pub invariant_of-self : goal.invariant_of-self
invariant_of-self g c =
    let s = c.self.inside in
    let bound : c.from.result ≡ s.setup.times.last = c.from.ensures ∙ c.last.ensures.value ∙ ap (λ (t : Times). t.last) c.schedule.ensures in
    has_next s.setup s.chains.items c.advance_all.new.chains.items s.latest s.used c.self.invariant c.advance_all.ensures.same (omega (arith, bound, c.if-self-from.true)) c.advance_all.ensures.reached

pub returns-then-self-from-clause-call : goal.returns-then-self-from-clause-call
returns-then-self-from-clause-call g c =
    let s = c.self.inside in
    let bound : c.from.result ≡ s.setup.times.last = c.from.ensures ∙ c.last.ensures.value ∙ ap (λ (t : Times). t.last) c.schedule.ensures in
    let cost = next_cost s.setup s.chains.items s.latest s.used c.self.invariant (omega (arith, bound, c.if-self-from.true)) in
    let seen : length s.setup.rows * bits s.setup.times.last ≡ length c.args.self.now.stream.setup.rows * bits c.args.self.now.stream.setup.times.last = ap (λ (v : State). length v.stream.setup.rows * bits v.stream.setup.times.last) c.self.view_is in
    omega (arith, cost, seen, c.advance_all.ensures.call)
