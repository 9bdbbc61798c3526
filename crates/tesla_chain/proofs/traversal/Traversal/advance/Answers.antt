use Rattle.std.proofs.Common.{◌≡◌, ◌+◌, ◌-◌, ◌*◌, ◌^◌, ◌≤◌, ◌∙◌, ℕ, sym, ap, subst, List, length, arith}
use Rattle.std.proofs.lemmas.List.{with_items_is}
use Rattle.tesla_prf.specs.Keys.{walk}
use Rattle.tesla_prf.proofs.Walks.{walk_none}
use Rattle.tesla_chain.specs.Cost.{bits}
use Rattle.tesla_chain.specs.declared.level.Level.{Level}
use Rattle.tesla_chain.specs.Kept.{IsKept}
use Rattle.tesla_chain.specs.Levels.{Stand}
use Rattle.tesla_chain.specs.Traversal.{Traversing}
use Rattle.tesla_chain.proofs.Digits.{by_keys, call_cost, left_after}
use Rattle.tesla_chain.proofs.Levels.{at}
use Rattle.tesla_chain.proofs.Passing.{goes_on, ordered}
use Rattle.tesla_chain.proofs.traversal.Traversal.advance.Goals as goal

pub returns-then-index-self-clause-key : goal.returns-then-index-self-clause-key
returns-then-index-self-clause-key g c =
    let t = c.self.inside in
    subst (λ (self : Traversing). t.seed ≡ walk self.seed (self.last - c.args.index)) c.self.view_is (at t.seed t.seed 0 _ (sym (walk_none t.seed)) (omega (arith, c.if-index-self.true)))

pub invariant_of-self-2 : goal.invariant_of-self-2
invariant_of-self-2 g c =
    let t = c.self.inside in
    let after = c.skip.new.levels in
    let order = ordered _ _ c.args.index c.self.view_is c.requires.after c.requires.within in
    let same : length after ≡ length t.levels.items = c.skip.auto.levels ∙ ap length c.as_mut_slice.ensures.value in
    let P : List Level → Type 0 = λ levels. IsKept t.last c.args.index t.seed t.commitment levels in
    subst P (sym (with_items_is t.levels after (c.skip.auto.levels ∙ c.as_mut_slice.ensures.len)))
    (goes_on t.last t.given c.args.index (t.last - t.given - 1) (t.last - c.args.index - 1) t.seed t.commitment t.levels.items after c.self.invariant order.0 (omega (arith, order.1, c.if-index-self.false)) (omega arith) (omega arith) same (rw c.as_mut_slice.ensures.value at c.skip.ensures.stand))

pub returns-clause-key : goal.returns-clause-key
returns-clause-key g c =
    let t = c.self.inside in
    let order = ordered _ _ c.args.index c.self.view_is c.requires.after c.requires.within in
    let P : ℕ → Type 0 = λ n. Stand t.seed 0 n t.last t.levels.items in
    let start : t.last - (t.given + 1) ≡ t.last - t.given - 1 = omega arith in
    let stand = subst P start (c.self.invariant.stand (omega (arith, order.0, order.1))) in
    let Q : List Level → Type 0 = λ levels. Stand t.seed 0 (t.last - t.given - 1) t.last levels in
    let here = subst Q (sym c.as_mut_slice.ensures.value) stand in
    subst (λ (self : Traversing). c.skip.result ≡ walk self.seed (self.last - c.args.index)) c.self.view_is
    (at t.seed c.skip.result _ _ (c.skip.ensures.key t.seed 0 t.last (sym (walk_none t.seed)) here) (omega (arith, order.1, c.if-index-self.false)))

pub returns-clause-call : goal.returns-clause-call
returns-clause-call g c =
    let t = c.self.inside in
    let index = c.args.index in
    let order = ordered _ _ c.args.index c.self.view_is c.requires.after c.requires.within in
    let kept = c.self.invariant in
    let size : length c.as_mut_slice.result.now ≡ length t.levels.items = ap length c.as_mut_slice.ensures.value in
    let power : 2 ^ length c.as_mut_slice.result.now ≡ 2 ^ length t.levels.items = ap (λ (n : ℕ). 2 ^ n) size in
    subst (λ (self : Traversing). c.skip.new.steps ≤ c.args.steps.now + (index - self.given) * ((bits self.last - bits (index - self.given)) + 1)) c.self.view_is
    (call_cost (index - t.given) (t.last - t.given - 1) (t.last - index - 1) (length c.as_mut_slice.result.now) t.last c.args.steps.now c.skip.new.steps (omega (arith, order.0, order.1, c.if-index-self.false)) (omega (arith, order.0, order.1, c.if-index-self.false)) (omega (arith, order.0, order.1, kept.enough, power)) (omega (arith, order.1)) (omega (arith, kept.few, size)) c.skip.ensures.each)

pub returns-clause-each : goal.returns-clause-each
returns-clause-each g c = omega (arith, returns-clause-call g c, by_keys (c.args.index - c.args.self.now.given) c.args.self.now.last (omega (arith, c.requires.after)) (omega (arith, c.requires.within)))

pub returns-clause-left : goal.returns-clause-left
returns-clause-left g c =
    let t = c.self.inside in
    let index = c.args.index in
    let order = ordered _ _ c.args.index c.self.view_is c.requires.after c.requires.within in
    let cost : c.skip.new.steps ≤ c.args.steps.now + (index - t.given) * ((bits t.last - bits (index - t.given)) + 1) = subst (λ (self : Traversing). c.skip.new.steps ≤ c.args.steps.now + (index - self.given) * ((bits self.last - bits (index - self.given)) + 1)) (sym c.self.view_is) (returns-clause-call g c) in
    subst (λ (self : Traversing). c.skip.new.steps + (t.last - index) * bits t.last ≤ c.args.steps.now + self.left) c.self.view_is (left_after t.given index t.last c.args.steps.now c.skip.new.steps order.0 order.1 cost)
