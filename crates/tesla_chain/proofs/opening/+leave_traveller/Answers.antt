use Rattle.std.proofs.Common.{◌≡◌, ◌∷◌, ◌<◌, ◌^◌, length, arith}
use Rattle.tesla_chain.proofs.Leaving.{none_left, traveller_left}
use Rattle.tesla_chain.proofs.opening.+leave_traveller.Goals as goal

pub returns-then-at-ahead-clause-travellers : goal.returns-then-at-ahead-clause-travellers
returns-then-at-ahead-clause-travellers t c = λ seed base reached e is.
    let parts : c.args.levels.now ≡ c.in-Some.level.now ∷ c.in-Some.lower.now = c.in-Some.ensures.cases.0 in
    let within : c.args.ahead < 2 ^ length (c.in-Some.level.now ∷ c.in-Some.lower.now) = rw parts at c.requires.within in
    λ before. traveller_left seed base c.args.ahead c.args.at reached c.span-span.result c.args.key c.in-Some.level.now c.in-Some.lower.now c.span-span.ensures (omega (arith, c.if-ahead-span.false)) within (omega (arith, c.if-at-ahead.true)) e is

pub returns-else-at-ahead-clause-travellers : goal.returns-else-at-ahead-clause-travellers
returns-else-at-ahead-clause-travellers t c = λ seed base reached e is.
    let parts : c.args.levels.now ≡ c.in-Some.level.now ∷ c.in-Some.lower.now = c.in-Some.ensures.cases.0 in
    let within : c.args.ahead < 2 ^ length (c.in-Some.level.now ∷ c.in-Some.lower.now) = rw parts at c.requires.within in
    rw parts (λ before. none_left seed base c.args.ahead c.args.at reached c.span-span.result c.in-Some.level.now c.in-Some.lower.now c.span-span.ensures (omega (arith, c.if-ahead-span.false)) within (omega (arith, c.if-span-at.false)) c.if-at-ahead.false e before)
