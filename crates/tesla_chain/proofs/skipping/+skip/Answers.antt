use Rattle.std.proofs.Common.{◌≡◌, ◌∷◌, ◌+◌, ◌-◌, ◌*◌, ◌^◌, ◌<◌, ◌≤◌, ℕ, inl, inr, length, refl, sym, ◌∙◌, ap, subst, arith}
use Rattle.std.proofs.lemmas.Bool.{cases_lt}
use Rattle.std.proofs.lemmas.Nat.{pow_pos}
use Rattle.tesla_base.specs.declared.names.Key.{Key}
use Rattle.tesla_prf.specs.Keys.{next_of, walk}
use Rattle.tesla_prf.proofs.Walks.{walk_more}
use Rattle.tesla_chain.specs.Levels.{Stand}
use Rattle.tesla_chain.proofs.Free.{afresh}
use Rattle.tesla_chain.proofs.Leaving.{below}
use Rattle.tesla_chain.proofs.Levels.{at, doubled, near, same_span}
use Rattle.tesla_chain.proofs.Savings.{each_far, each_filled, each_near, each_over, whole_way}
use Rattle.tesla_chain.proofs.Skipped.{crossed, far_of, mark_of, skipped_far, skipped_near, starts, turned_full}
use Rattle.tesla_chain.proofs.skipping.+skip.Given as given
use Rattle.tesla_chain.proofs.skipping.+skip.Goals.{After-set_out}
use Rattle.tesla_chain.proofs.skipping.+skip.Goals as goal

-- the levels are filled from the mark
pub returns-then-left-ahead-clause-key : goal.returns-then-left-ahead-clause-key
returns-then-left-ahead-clause-key g t c = λ seed base free top stand.
    let is : c.next_key.result ≡ walk c.args.high (c.args.left + 1) = c.next_key.ensures.value ∙ ap next_of c.fill-next.ensures.key ∙ sym (walk_more c.args.high c.args.left) in
    below seed c.args.high c.next_key.result base (c.args.left + 1) top is

pub returns-then-left-ahead-clause-stand : goal.returns-then-left-ahead-clause-stand
returns-then-left-ahead-clause-stand g t c = λ seed base free more wider within top stand.
    c.fill-next.ensures.stand seed base more top (afresh seed base c.args.ahead free more c.args.levels.now wider within stand.marks)

pub returns-then-left-ahead-clause-each : goal.returns-then-left-ahead-clause-each
returns-then-left-ahead-clause-each g t c = λ digits extra few fits own both.
    let gap = c.args.ahead - c.args.left in
    let cost = each_filled gap c.args.ahead c.args.left (length c.args.levels.now) digits extra refl c.requires.order c.requires.within few own both (omega (arith, c.if-left-ahead.true)) in
    omega (arith, cost, c.fill-next.ensures.cost, c.next_key.ensures.cost)

-- the level's mark stays above the base
pub returns-then-ahead-span-clause-key : goal.returns-then-ahead-span-clause-key
returns-then-ahead-span-clause-key g t c = λ seed base free top.
    let parts : c.args.levels.now ≡ c.in-Some.level.now ∷ c.in-Some.lower.now = c.in-Some.ensures.cases.0 in
    let low : c.args.ahead < 2 ^ length c.in-Some.lower.now = omega (arith, c.if-ahead-span.true, c.span-span.ensures) in
    rw parts (λ stand. c.skip.ensures.key seed base free top (near seed base c.args.ahead free c.in-Some.level.now c.in-Some.lower.now low stand))

pub returns-then-ahead-span-clause-stand : goal.returns-then-ahead-span-clause-stand
returns-then-ahead-span-clause-stand g t c = λ seed base free more wider within top.
    let parts : c.args.levels.now ≡ c.in-Some.level.now ∷ c.in-Some.lower.now = c.in-Some.ensures.cases.0 in
    let low : c.args.ahead < 2 ^ length c.in-Some.lower.now = omega (arith, c.if-ahead-span.true, c.span-span.ensures) in
    rw parts (λ stand. skipped_near seed base c.args.ahead c.args.left free more c.in-Some.level.now c.in-Some.lower.now c.skip.new.levels c.skip.auto.levels low c.requires.order wider stand
    (c.skip.ensures.stand seed base free more wider within top (near seed base c.args.ahead free c.in-Some.level.now c.in-Some.lower.now low stand)))

pub returns-then-ahead-span-clause-each : goal.returns-then-ahead-span-clause-each
returns-then-ahead-span-clause-each g t c = λ digits extra few fits own both.
    let count : length c.args.levels.now ≡ length c.in-Some.lower.now + 1 = (let parts : c.args.levels.now ≡ c.in-Some.level.now ∷ c.in-Some.lower.now = c.in-Some.ensures.cases.0 in omega (arith, ap length parts)) in
    let gap = c.args.ahead - c.args.left in
    elim (cases_lt digits (length c.args.levels.now)) [
      | inl fewer ↦ omega (arith, c.skip.ensures.each digits extra (omega arith) fits own both, each_near gap (length c.in-Some.lower.now) (length c.args.levels.now) digits extra count)
      | inr most ↦ omega (arith, c.skip.ensures.whole, whole_way gap c.args.ahead c.args.left (length c.args.levels.now) digits extra refl c.requires.order c.requires.within few most both)
    ]

-- the next key stays below the level's mark
pub returns-then-span-left-clause-key : goal.returns-then-span-left-clause-key
returns-then-span-left-clause-key g t c = λ seed base free top.
    let parts : c.args.levels.now ≡ c.in-Some.level.now ∷ c.in-Some.lower.now = c.in-Some.ensures.cases.0 in
    let span = c.span-span.result in
    let above : span ≤ c.args.ahead = omega (arith, c.if-ahead-span.false) in
    rw parts (λ stand. at seed c.skip-key.result _ _ (c.skip-key.ensures.key seed (base + span) 0 (mark_of seed base c.args.ahead free span c.in-Some.level.now c.in-Some.lower.now c.span-span.ensures above stand) (far_of seed base c.args.ahead free span c.in-Some.level.now c.in-Some.lower.now c.span-span.ensures above stand)) (omega (arith, c.if-span-left.true)))

pub returns-then-span-left-clause-stand : goal.returns-then-span-left-clause-stand
returns-then-span-left-clause-stand g t c = λ seed base free more wider inside top.
    let parts : c.args.levels.now ≡ c.in-Some.level.now ∷ c.in-Some.lower.now = c.in-Some.ensures.cases.0 in
    let span = c.span-span.result in
    let ahead = c.args.ahead in
    let level = c.in-Some.level.now in
    let lower = c.in-Some.lower.now in
    let above : span ≤ ahead = omega (arith, c.if-ahead-span.false) in
    let within : ahead < 2 ^ length (level ∷ lower) = rw parts at c.requires.within in
    let mid = c.skip-key.new.levels in
    let walk = c.walk_down-level in
    rw parts (λ stand.
    let rest : Stand seed (base + span) (c.args.left - span) (ahead - span) mid = c.skip-key.ensures.stand seed (base + span) 0 (ahead - span) (omega arith) (omega arith) (mark_of seed base ahead free span level lower c.span-span.ensures above stand) (far_of seed base ahead free span level lower c.span-span.ensures above stand) in
    skipped_far seed base ahead c.args.left free more span walk.result level lower mid walk.new.levels c.skip-key.auto.levels walk.auto.levels c.span-span.ensures c.if-span-left.true c.requires.order within walk.ensures.key stand rest
    (walk.ensures.marks seed (base + span) (omega (arith, doubled level lower, c.span-span.ensures)) (starts seed base ahead free span level lower c.span-span.ensures above within stand))
    (λ reached. walk.ensures.travellers seed (base + span) (c.args.left - span) reached))

pub returns-then-span-left-clause-each : goal.returns-then-span-left-clause-each
returns-then-span-left-clause-each g t c = λ digits extra few fits own both.
    let parts : c.args.levels.now ≡ c.in-Some.level.now ∷ c.in-Some.lower.now = c.in-Some.ensures.cases.0 in
    let count : length c.args.levels.now ≡ length c.in-Some.lower.now + 1 = omega (arith, ap length parts) in
    let within : c.args.ahead < 2 ^ length (c.in-Some.level.now ∷ c.in-Some.lower.now) = rw parts at c.requires.within in
    let gap = c.args.ahead - c.args.left in
    let span = c.span-span.result in
    let same : (c.args.ahead - span) - (c.args.left - span) ≡ gap = omega (arith, c.if-span-left.true) in
    let P : ℕ → Type 0 = λ n. n < 2 ^ digits → n ≤ extra → 2 ^ digits ≤ extra + n → c.skip-key.new.steps ≤ c.args.steps.now + (n * (length c.in-Some.lower.now - digits) + extra) in
    elim (cases_lt digits (length c.args.levels.now)) [
      | inl fewer ↦
          let low : digits ≤ length c.in-Some.lower.now = omega arith in
          let deeper = subst P same (c.skip-key.ensures.each digits extra low) fits own both in
          omega (arith, deeper, same, c.walk_down-level.ensures.cost, each_far gap (length c.in-Some.lower.now) (length c.args.levels.now) digits extra count low)
      | inr most ↦ omega (arith, c.skip-key.ensures.whole, c.walk_down-level.ensures.cost, c.if-left-ahead.false, c.if-span-left.true, c.span-span.ensures, doubled c.in-Some.level.now c.in-Some.lower.now, whole_way gap c.args.ahead c.args.left (length c.args.levels.now) digits extra refl c.requires.order c.requires.within few most both)
    ]

-- the next key comes to be above the level's mark, with all of the levels below
pub returns-then-left-span-clause-stand : goal.returns-then-left-span-clause-stand
returns-then-left-span-clause-stand g t c = λ seed base free more wider inside top.
    let parts : c.args.levels.now ≡ c.in-Some.level.now ∷ c.in-Some.lower.now = c.in-Some.ensures.cases.0 in
    let level = c.in-Some.level.now in
    let lower = c.in-Some.lower.now in
    let spans = c.span-span.ensures in
    let above : c.span-span.result ≤ c.args.ahead = omega (arith, c.if-ahead-span.false) in
    let within : c.args.ahead < 2 ^ length (level ∷ lower) = rw parts at c.requires.within in
    rw parts (λ stand.
    crossed seed base c.args.ahead c.args.left more c.span-span.result level lower c.set_out.new.levels (c.set_out.auto.levels ∙ c.walk_down.auto.levels) spans above (omega (arith, c.if-span-left.false)) inside
    (turned_full seed base c.args.ahead c.args.left free more c.span-span.result c.args.high level lower c.walk_down.new.levels c.set_out.new.levels c.walk_down.auto.levels spans above c.if-left-span.true within top stand c.walk_down.ensures.marks c.set_out.ensures))

-- the next key comes to be below the marks of all the levels below
turned_below : (g : given.Over) (t : ℕ) (c : After-set_out g t) (seed : Key) (base free more : ℕ) → c.args.high ≡ walk seed base → Stand seed base c.args.ahead free c.args.levels.now → Stand seed base (c.span-span.result - 1) more c.set_out.new.levels
turned_below g t c seed base free more top =
    let parts : c.args.levels.now ≡ c.in-Some.level.now ∷ c.in-Some.lower.now = c.in-Some.ensures.cases.0 in
    let level = c.in-Some.level.now in
    let lower = c.in-Some.lower.now in
    let spans = c.span-span.ensures in
    let above : c.span-span.result ≤ c.args.ahead = omega (arith, c.if-ahead-span.false) in
    let within : c.args.ahead < 2 ^ length (level ∷ lower) = rw parts at c.requires.within in
    let last : (c.span-span.result - 1) + 1 ≡ c.span-span.result = omega (arith, spans, pow_pos (length lower)) in
    rw parts (λ stand.
    turned_full seed base c.args.ahead (c.span-span.result - 1) free more c.span-span.result c.args.high level lower c.walk_down.new.levels c.set_out.new.levels c.walk_down.auto.levels spans above last within top stand c.walk_down.ensures.marks c.set_out.ensures)

pub returns-clause-key : goal.returns-clause-key
returns-clause-key g t c = λ seed base free top stand. c.skip-2.ensures.key seed base 0 top (turned_below g t (goal.at.returns-clause-key g t c).After-set_out seed base free 0 top stand)

pub returns-clause-stand : goal.returns-clause-stand
returns-clause-stand g t c = λ seed base free more wider inside top stand.
    crossed seed base c.args.ahead c.args.left more c.span-span.result c.in-Some.level.now c.in-Some.lower.now c.skip-2.new.levels (c.skip-2.auto.levels ∙ c.set_out.auto.levels ∙ c.walk_down.auto.levels) c.span-span.ensures (omega (arith, c.if-ahead-span.false)) (omega (arith, c.if-span-left.false)) inside
    (c.skip-2.ensures.stand seed base 0 more (omega arith) (omega arith) top (turned_below g t (goal.at.returns-clause-stand g t c).After-set_out seed base free 0 top stand))

pub returns-clause-each : goal.returns-clause-each
returns-clause-each g t c = λ digits extra few fits own both.
    let parts : c.args.levels.now ≡ c.in-Some.level.now ∷ c.in-Some.lower.now = c.in-Some.ensures.cases.0 in
    let lower = c.in-Some.lower.now in
    let count : length c.args.levels.now ≡ length lower + 1 = omega (arith, ap length parts) in
    let span = c.span-span.result in
    let spans = c.span-span.ensures in
    let size : length c.set_out.new.levels ≡ length lower = c.set_out.auto.levels ∙ c.walk_down.auto.levels in
    let spanned = same_span lower c.set_out.new.levels size in
    let some : 0 < span = omega (arith, spans, pow_pos (length lower)) in
    let low : c.args.left < span = omega (arith, c.if-span-left.false) in
    let above : span ≤ c.args.ahead = omega (arith, c.if-ahead-span.false) in
    let rest = (span - 1) - c.args.left in
    let far : 2 * (c.args.ahead - c.args.left) ≤ c.args.left = omega (arith, c.if-left-ahead.false) in
    let half = c.skip-2.ensures.half (omega (arith, spanned, spans)) (omega arith) in
    let P : ℕ → Type 0 = λ n. (digits extra : ℕ) → digits ≤ n → rest < 2 ^ digits → rest ≤ extra → 2 ^ digits ≤ extra + rest → c.skip-2.new.steps ≤ c.walk_down.new.steps + (rest * (n - digits) + extra) in
    each_over (c.args.ahead - c.args.left) (c.args.ahead - span) rest c.args.left span (length lower) (length c.args.levels.now) digits extra c.args.steps.now c.walk_down.new.steps c.skip-2.new.steps (omega arith) count spans (omega (arith, c.walk_down.ensures.cost)) (omega (arith, half)) far low (subst P size c.skip-2.ensures.each) few fits own both
