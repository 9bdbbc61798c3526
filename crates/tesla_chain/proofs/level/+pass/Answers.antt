use Rattle.std.proofs.Common.{◌≡◌, ◌∷◌, ◌^◌, ◌<◌, length, arith}
use Rattle.tesla_chain.proofs.Levels.{near, pass_far, pass_here, pass_near}
use Rattle.tesla_chain.proofs.level.+pass.Goals as goal

pub returns-then-ahead-span-clause-stand : goal.returns-then-ahead-span-clause-stand
returns-then-ahead-span-clause-stand g t c = λ seed base left free e high traveller.
    let parts : c.args.levels.now ≡ c.in-Some.level.now ∷ c.in-Some.lower.now = c.in-Some.ensures.cases.0 in
    let below : c.args.ahead < 2 ^ length c.in-Some.lower.now = omega (arith, c.if-ahead-span.true, c.span-span.ensures) in
    rw parts (λ stand. pass_near seed base c.args.ahead left free c.in-Some.level.now c.in-Some.lower.now c.pass.new.levels c.pass.auto.levels below e stand (c.pass.ensures.stand seed base left free e high traveller (near seed base c.args.ahead free c.in-Some.level.now c.in-Some.lower.now below stand)))

pub returns-then-ahead-span-2-clause-stand : goal.returns-then-ahead-span-2-clause-stand
returns-then-ahead-span-2-clause-stand g t c = λ seed base left free e high traveller.
    let parts : c.args.levels.now ≡ c.in-Some.level.now ∷ c.in-Some.lower.now = c.in-Some.ensures.cases.0 in
    rw parts (λ stand. pass_here seed base c.args.ahead left free c.args.high c.args.traveller c.in-Some.level.now c.in-Some.lower.now c.set_out.new.levels c.set_out.auto.levels (omega (arith, c.if-ahead-span-2.true, c.span-span.ensures)) e high traveller stand c.set_out.ensures)

pub returns-clause-stand : goal.returns-clause-stand
returns-clause-stand g t c = λ seed base left free e high traveller.
    let parts : c.args.levels.now ≡ c.in-Some.level.now ∷ c.in-Some.lower.now = c.in-Some.ensures.cases.0 in
    let within : c.args.ahead < 2 ^ length (c.in-Some.level.now ∷ c.in-Some.lower.now) = rw parts at c.requires.within in
    rw parts (λ stand. pass_far seed base c.args.ahead left free c.span-span.result c.next_key-level.result c.in-Some.level.now c.in-Some.lower.now c.pass-2.new.levels c.pass-2.auto.levels c.span-span.ensures (omega (arith, c.if-ahead-span.false, c.if-ahead-span-2.false)) within e c.next_key-level.ensures.value stand c.pass-2.ensures.stand)
