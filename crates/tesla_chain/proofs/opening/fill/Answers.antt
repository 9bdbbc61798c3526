use Rattle.std.proofs.Common.{◌≡◌, ◌+◌, refl, sym, ◌∙◌, ap, subst, ℕ, arith}
use Rattle.tesla_prf.specs.Keys.{next_of, walk}
use Rattle.tesla_prf.proofs.Walks.{walk_more, walk_none}
use Rattle.tesla_chain.specs.Levels.{Marks}
use Rattle.tesla_chain.proofs.Levels.{at}
use Rattle.tesla_chain.proofs.Leaving.{all_reached, below, none_below}
use Rattle.tesla_chain.proofs.opening.fill.Goals as goal

pub loop-before-init : goal.loop-before-init
loop-before-init g c =
    let first = c.leave_traveller.ensures in (
      sym (walk_none c.args.high),
      omega arith,
      c.leave_traveller.auto.levels,
      λ seed base free top marks. first.marks seed base 0 free marks,
      λ seed base top. first.travellers seed base (base + (0 + 1)) (omega arith) (at seed c.args.high _ _ top (omega arith)) (none_below seed base c.args.ahead (base + 0) c.args.levels.now (omega arith) c.requires.within),
    )

pub loop-before-preserved : goal.loop-before-preserved
loop-before-preserved g c =
    let before = c.loop-before.before in
    let high = c.args.high in
    let kept = c.loop-before.invariant in
    let key = c.next_key-key.result in
    let is : key ≡ walk high (before + 1) = c.next_key-key.ensures.value ∙ ap next_of kept.0 ∙ sym (walk_more high before) in (
      is,
      omega (arith, c.next_key-key.ensures.cost, kept.1),
      c.leave_traveller-in-loop-before.auto.levels ∙ c.leave_mark.auto.levels ∙ kept.2,
      λ seed base free top marks. c.leave_traveller-in-loop-before.ensures.marks seed base (before + 1) free (c.leave_mark.ensures.marks seed base before free refl (below seed high key base (before + 1) top is) (kept.3 seed base free top marks)),
      λ seed base top. c.leave_traveller-in-loop-before.ensures.travellers seed base (base + ((before + 1) + 1)) (omega arith) (below seed high key base (before + 1) top is) (c.leave_mark.ensures.travellers seed base c.args.ahead (base + (before + 1)) (kept.4 seed base top)),
    )

pub returns-clause-stand : goal.returns-clause-stand
returns-clause-stand g c = λ seed base free top marks.
    let kept = c.loop-before.invariant in
    let end : c.loop-before.before ≡ c.args.ahead = omega (arith, c.loop-before-test.false, c.loop-before.auto.before-end) in
    let P : ℕ → Type 0 = λ n. Marks seed base n free c.loop-before.levels in
    record {
      marks = subst P end (kept.3 seed base free top marks);
      travellers = λ reached. all_reached seed base c.args.ahead (base + (c.loop-before.before + 1)) reached c.loop-before.levels (omega arith) (rw kept.2 c.requires.within) (kept.4 seed base top);
    }
