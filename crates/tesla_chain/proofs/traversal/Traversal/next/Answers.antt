use Rattle.std.proofs.Common.{◌≡◌, ◌+◌, ◌∙◌, sym, ap, subst, List, length, arith}
use Rattle.std.proofs.lemmas.List.{with_items_is}
use Rattle.tesla_prf.proofs.Walks.{walk_none}
use Rattle.tesla_chain.specs.declared.level.Level.{Level}
use Rattle.tesla_chain.specs.Kept.{IsKept}
use Rattle.tesla_chain.proofs.Passing.{passed}
use Rattle.tesla_chain.proofs.traversal.Traversal.next.Goals as goal

pub invariant_of-self-2 : goal.invariant_of-self-2
invariant_of-self-2 g c =
    let t = c.self.inside in
    let after = c.pass.new.levels in
    let same : length after ≡ length t.levels.items = c.pass.auto.levels ∙ ap length c.as_mut_slice.ensures.value in
    let P : List Level → Type 0 = λ levels. IsKept t.last (t.given + 1) t.seed t.commitment levels in
    subst P (sym (with_items_is t.levels after (c.pass.auto.levels ∙ c.as_mut_slice.ensures.len))) (passed t.last t.given t.seed t.commitment t.levels.items after c.self.invariant (omega (arith, c.if-self.false, c.self.invariant.within)) (omega (arith, c.if-ahead-eq0.false)) same (rw c.as_mut_slice.ensures.value at c.pass.ensures.stand))

pub returns-then-ahead-eq0-clause-key : goal.returns-then-ahead-eq0-clause-key
returns-then-ahead-eq0-clause-key g c = grind (arith, walk_none)
