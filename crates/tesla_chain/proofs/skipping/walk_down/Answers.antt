use Rattle.std.proofs.Common.{◌≡◌, ◌+◌, ◌-◌, ℕ, refl, sym, ◌∙◌, ap, subst, arith}
use Rattle.tesla_prf.specs.Keys.{next_of, walk}
use Rattle.tesla_prf.proofs.Walks.{walk_more, walk_none}
use Rattle.tesla_chain.specs.Levels.{Marks}
use Rattle.tesla_chain.proofs.Free.{none_free}
use Rattle.tesla_chain.proofs.Leaving.{below}
use Rattle.tesla_chain.proofs.Levels.{at}
use Rattle.tesla_chain.proofs.skipping.walk_down.Goals as goal

pub loop-done-init : goal.loop-done-init
loop-done-init g c =
    let none : c.args.ahead ≡ c.args.ahead - 0 = omega arith in (
      sym (walk_none c.args.traveller),
      omega arith,
      refl,
      λ seed base high start marks. let P : ℕ → Type 0 = λ n. Marks seed base c.args.left n c.args.levels.now in subst P none marks,
      λ seed base given reached travellers. travellers,
    )

pub loop-done-preserved : goal.loop-done-preserved
loop-done-preserved g c =
    let done = c.loop-done.done in
    let ahead = c.args.ahead in
    let first = c.args.traveller in
    let kept = c.loop-done.invariant in
    let key = c.next_key-walked.result in
    let is : key ≡ walk first (done + 1) = c.next_key-walked.ensures.value ∙ ap next_of kept.0 ∙ sym (walk_more first done) in (
      is,
      omega (arith, c.next_key-walked.ensures.cost, kept.1),
      c.hand_down.auto.levels ∙ kept.2,
      λ seed base high start marks. c.hand_down.ensures.marks seed base c.args.left (ahead - (done + 1)) (omega (arith, c.loop-done-test.true)) (omega (arith, c.loop-done-test.true)) (at seed key _ _ (below seed first key _ (done + 1) start is) (omega (arith, c.loop-done-test.true))) (kept.3 seed base high start marks),
      λ seed base given reached travellers. c.hand_down.ensures.travellers seed base given reached (kept.4 seed base given reached travellers),
    )

pub returns-clause-marks : goal.returns-clause-marks
returns-clause-marks g c = λ seed base high start marks.
    let end : c.args.ahead - c.loop-done.done ≡ c.args.left = omega (arith, c.loop-done-test.false, c.loop-done.auto.done-end, c.requires.order) in
    let P : ℕ → Type 0 = λ n. Marks seed base c.args.left n c.loop-done.levels in
    none_free seed base c.args.left c.loop-done.levels (subst P end (c.loop-done.invariant.3 seed base high start marks))
