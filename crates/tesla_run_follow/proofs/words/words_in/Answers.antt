use Rattle.std.proofs.Common.{◌≡◌, Some, ap, arith}
use Rattle.tesla_run_receive.specs.OutputArguments.{OutputArguments, arguments_of}
use Rattle.tesla_run_follow.proofs.words.words_in.Goals as goal

pub returns-in_default-clause-only : goal.returns-in_default-clause-only
returns-in_default-clause-only c arguments is = c.in_default.ensures.only arguments is.form

pub returns-then-arguments-gt-MOST_CAPACITY-clause-only : goal.returns-then-arguments-gt-MOST_CAPACITY-clause-only
returns-then-arguments-gt-MOST_CAPACITY-clause-only c arguments is =
    let found : ◌≡◌ (Some (arguments_of c.in-Some.arguments)) (Some arguments) = c.in-Some.ensures.only arguments is.form in
    let same : arguments_of c.in-Some.arguments ≡ arguments = cc in
    absurd (omega (arith, c.if-arguments-gt-MOST_CAPACITY.true, is.capacity, ap (λ (a : OutputArguments). a.receive.limits.capacity) same))

pub returns-clause-only : goal.returns-clause-only
returns-clause-only c arguments is = c.in-Some.ensures.only arguments is.form
