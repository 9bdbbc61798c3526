use Rattle.std.proofs.Common.{◌≡◌, ◌∷◌, arith}
use Rattle.tesla_chain.proofs.Free.{handed, not_handed}
use Rattle.tesla_chain.proofs.skipping.+hand_down.Goals as goal

pub returns-then-distance-span-2-clause-marks : goal.returns-then-distance-span-2-clause-marks
returns-then-distance-span-2-clause-marks t c = λ seed base left free e low is.
    let parts : c.args.levels.now ≡ c.in-Some.level.now ∷ c.in-Some.lower.now = c.in-Some.ensures.cases.0 in
    rw parts (λ marks. handed seed base left free c.args.distance c.args.key c.in-Some.level.now c.in-Some.lower.now (omega (arith, c.if-distance-span-2.true, c.span-span.ensures)) e low is marks)

pub returns-else-distance-span-2-clause-marks : goal.returns-else-distance-span-2-clause-marks
returns-else-distance-span-2-clause-marks t c = λ seed base left free e low is.
    let parts : c.args.levels.now ≡ c.in-Some.level.now ∷ c.in-Some.lower.now = c.in-Some.ensures.cases.0 in
    rw parts (λ marks. not_handed seed base left free c.args.distance c.in-Some.level.now c.in-Some.lower.now (omega (arith, c.if-distance-span.false, c.if-distance-span-2.false, c.span-span.ensures)) e marks)
