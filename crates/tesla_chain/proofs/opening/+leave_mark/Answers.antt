use Rattle.std.proofs.Common.{◌≡◌, ◌∷◌, arith}
use Rattle.tesla_chain.proofs.Leaving.{mark_left}
use Rattle.tesla_chain.proofs.opening.+leave_mark.Goals as goal

pub returns-then-ahead-span-2-clause-marks : goal.returns-then-ahead-span-2-clause-marks
returns-then-ahead-span-2-clause-marks t c = λ seed base before free e is.
    let parts : c.args.levels.now ≡ c.in-Some.level.now ∷ c.in-Some.lower.now = c.in-Some.ensures.cases.0 in
    rw parts (λ marks. mark_left seed base before c.args.ahead free c.args.key c.in-Some.level.now c.in-Some.lower.now (omega (arith, c.if-ahead-span-2.true, c.span-span.ensures)) e is marks)
