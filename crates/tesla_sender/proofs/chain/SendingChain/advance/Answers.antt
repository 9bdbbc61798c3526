use Rattle.std.proofs.Common.{◌≡◌, ℕ, ◌+◌, ◌-◌, ◌*◌, ◌≤◌, ◌∙◌, ap, subst, arith}
use Rattle.tesla_chain.specs.Cost.{bits}
use Rattle.tesla_chain.proofs.Digits.{by_keys}
use Rattle.tesla_sender.specs.Chains.{HasKept, Progress, steps_to}
use Rattle.tesla_sender.proofs.Costs.{far_cost}
use Rattle.tesla_sender.proofs.Kept.{used_far, used_near}
use Rattle.tesla_sender.proofs.chain.SendingChain.advance.Goals as goal

pub invariant_of-self : goal.invariant_of-self
invariant_of-self g c =
    let s = c.self.inside in
    let reached : s.reached ≡ c.args.self.now.reached = ap (λ (p : Progress). p.reached) c.self.view_is in
    let last : s.last ≡ c.args.self.now.chain.last = ap (λ (p : Progress). p.chain.last) c.self.view_is in
    used_near s.row.delay s.last s.traversal c.keep_keys.new.traversal s.kept c.keep_keys.new.kept s.reached (c.args.interval - s.reached) c.args.interval s.tagging s.mac c.self.invariant c.keep_keys.ensures.kept (omega arith) (omega arith)

pub invariant_of-self-2 : goal.invariant_of-self-2
invariant_of-self-2 g c =
    let s = c.self.inside in
    let last : s.last ≡ c.args.self.now.chain.last = ap (λ (p : Progress). p.chain.last) c.self.view_is in
    let room : c.from-room.result + 2 ≡ s.row.delay + 2 = omega (arith, c.from-room.ensures) in
    let kept = subst (λ (n : ℕ). HasKept n c.advance.new.self c.keep_keys-2.new.traversal s.kept c.keep_keys-2.new.kept) room c.keep_keys-2.ensures.kept in
    used_far s.row.delay s.last s.traversal c.advance.new.self c.keep_keys-2.new.traversal s.kept c.keep_keys-2.new.kept s.reached (c.args.interval - (c.from-room.result + 2)) c.args.interval s.tagging s.mac c.self.invariant c.advance.ensures.given kept (omega (arith, c.from-room.ensures, c.if-way-room.false)) (omega arith)

pub returns-clause-call : goal.returns-clause-call
returns-clause-call g c =
    let s = c.self.inside in
    let to = c.args.interval in
    let room = s.row.delay + 2 in
    let from = to - (c.from-room.result + 2) in
    let gap = from - s.traversal.given in
    let last : s.last ≡ c.args.self.now.chain.last = ap (λ (p : Progress). p.chain.last) c.self.view_is in
    let reached : s.reached ≡ c.args.self.now.reached = ap (λ (p : Progress). p.reached) c.self.view_is in
    let whole = c.self.invariant.whole in
    let given = c.self.invariant.given in
    let size : c.from-room.result + 2 ≡ room = omega (arith, c.from-room.ensures) in
    let way : gap * bits s.traversal.last ≡ gap * bits s.last = ap (λ (n : ℕ). gap * bits n) whole in
    let each : c.advance.new.steps ≤ c.args.steps.now + gap * bits s.last = omega (arith, way, c.advance.ensures.call, by_keys gap s.traversal.last (omega (arith, c.if-way-room.false)) (omega arith)) in
    let ring : (c.from-room.result + 2) * bits c.advance.new.self.last ≡ room * bits s.last = ap (λ (n : ℕ). (c.from-room.result + 2) * bits n) (c.advance.ensures.given.last ∙ whole) ∙ ap (λ (n : ℕ). n * bits s.last) size in
    let rest : c.keep_keys-2.new.steps ≤ c.advance.new.steps + room * bits s.last = omega (arith, ring, c.keep_keys-2.ensures.call) in
    let cost = far_cost (to - s.reached) gap room s.last from to (bits s.last) c.args.steps.now c.advance.new.steps c.keep_keys-2.new.steps (omega (arith, c.if-way-room.false)) (omega (arith, c.if-way-room.false)) (omega arith) each (omega (arith, c.advance.ensures.whole)) rest in
    subst (λ (p : Progress). c.keep_keys-2.new.steps ≤ c.args.steps.now + steps_to to p) c.self.view_is cost
