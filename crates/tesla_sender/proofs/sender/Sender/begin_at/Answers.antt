use Rattle.std.proofs.Common.{◌≡◌, ℕ, ◌+◌, ◌≤◌, ◌∙◌, ap, subst, arith}
use Rattle.std.specs.Prelude.{min}
use Rattle.std.specs.List.{All, sum_by}
use Rattle.tesla_clock.specs.Schedule.{Times}
use Rattle.tesla_sender.specs.Chains.{HasReached, IsReady, steps_to}
use Rattle.tesla_sender.specs.Cost.{steps_between}
use Rattle.tesla_sender.specs.Senders.{stream_of}
use Rattle.tesla_sender.specs.Stands.{State}
use Rattle.tesla_sender.proofs.Costs.{all_along}
use Rattle.tesla_sender.proofs.Senders.{begins_at, ready}
use Rattle.tesla_sender.proofs.sender.Sender.begin_at.Goals as goal

pub advance_all-requires : goal.advance_all-requires
advance_all-requires g c =
    let s = c.self.inside in
    let interval = c.args.interval in
    let latest : s.latest ≡ c.args.self.now.latest = ap (λ (v : State). v.latest) c.self.view_is in
    let all = ready s.setup s.chains.items s.latest s.used interval c.self.invariant (omega arith) in
    let bound : c.from-last.result ≡ s.setup.times.last = c.from-last.ensures ∙ c.last.ensures.value ∙ ap (λ (t : Times). t.last) c.schedule.ensures in
    let same : min interval s.setup.times.last ≡ c.min.result = omega (arith, bound, c.min.ensures) in
    subst (λ i. All (IsReady i) s.chains.items) same all

pub invariant_of-self : goal.invariant_of-self
invariant_of-self g c =
    let s = c.self.inside in
    let bound : c.from-last.result ≡ s.setup.times.last = c.from-last.ensures ∙ c.last.ensures.value ∙ ap (λ (t : Times). t.last) c.schedule.ensures in
    let to : c.min.result ≡ min c.args.interval s.setup.times.last = c.min.ensures ∙ ap (min c.args.interval) bound in
    begins_at s.setup s.chains.items c.advance_all.new.chains.items s.latest s.used c.args.interval c.self.invariant c.advance_all.ensures.same (subst (λ (i : ℕ). All (HasReached i) c.advance_all.new.chains.items) to c.advance_all.ensures.reached)

pub returns-clause-call : goal.returns-clause-call
returns-clause-call g c =
    let s = c.self.inside in
    let interval = c.args.interval in
    let bound : c.from-last.result ≡ s.setup.times.last = c.from-last.ensures ∙ c.last.ensures.value ∙ ap (λ (t : Times). t.last) c.schedule.ensures in
    let to : c.min.result ≡ min interval s.setup.times.last = c.min.ensures ∙ ap (min interval) bound in
    let all = all_along s.setup s.chains.items s.latest s.used interval c.self.invariant in
    let seen : steps_between (stream_of s.setup s.chains.items) s.latest interval ≡ steps_between c.args.self.now.stream c.args.self.now.latest interval = ap (λ (v : State). steps_between v.stream v.latest interval) c.self.view_is in
    let steps : c.advance_all.new.steps ≤ c.args.steps.now + sum_by (steps_to (min interval s.setup.times.last)) s.chains.items = subst (λ (i : ℕ). c.advance_all.new.steps ≤ c.args.steps.now + sum_by (steps_to i) s.chains.items) to c.advance_all.ensures.call in
    omega (arith, all, seen, steps)
