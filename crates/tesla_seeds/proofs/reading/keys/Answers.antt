use Rattle.std.proofs.Common.{◌≡◌, ◌+◌, ◌-◌, ◌<◌, length, sym, ◌∙◌, arith}
use Rattle.std.proofs.lemmas.Bool.Decides.{nat_tests}
use Rattle.tesla_seeds.proofs.Judging.{nothing_before, keys_step, keys_refused, keys_over, keys_end}
use Rattle.tesla_seeds.proofs.reading.keys.Goals as goal

pub loop-line-init : goal.loop-line-init
loop-line-init c =
    let all : 2 + c.from-end.result - 2 ≡ c.args.count = omega arith in
    rw (c.new-keys.ensures.items, all) (nothing_before _)

pub returns-in-Err : goal.returns-in-Err
returns-in-Err c = sym c.loop-line.invariant ∙ keys_refused _ _ _ _ _ (omega arith) c.in-Err.ensures

pub loop-line-preserved : goal.loop-line-preserved
loop-line-preserved c =
    rw c.in_ok-push.ensures.items (sym (keys_step _ _ _ _ _ _ _ (omega arith) c.in-Ok.ensures) ∙ c.loop-line.invariant)

pub returns-then-not-is_empty : goal.returns-then-not-is_empty
returns-then-not-is_empty c =
    let some : 0 < length c.loop-line.rest.now = grind (arith, nat_tests) in
    let line : c.loop-line.line ≡ 2 + c.from-end.result = omega arith in
    sym c.loop-line.invariant ∙ rw line (keys_over _ _ _ _ (omega arith) some)

pub returns : goal.returns
returns c =
    let none : length c.loop-line.rest.now ≡ 0 = grind (arith, nat_tests) in
    sym c.loop-line.invariant ∙ keys_end _ _ _ _ (omega arith) none
