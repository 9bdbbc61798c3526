use Rattle.std.proofs.Common.{arith}
use Rattle.std.proofs.lemmas.Str.Parse.{digit_at}
use Rattle.tesla_base.proofs.Numbers.{too_large, value_more}
use Rattle.tesla_base.proofs.number.value.Goals as goal

pub returns-in_default : goal.returns-in_default
returns-in_default c = too_large c.args.digits.now c.loop-digit.digit-index _ _ c.requires c.loop-digit-test.true c.loop-digit.invariant (omega arith)

pub overflow_sub-digit : goal.overflow_sub-digit
overflow_sub-digit c = (digit_at c.args.digits.now c.loop-digit.digit-index c.requires c.loop-digit-test.true).0

pub returns-in_default-checked_add : goal.returns-in_default-checked_add
returns-in_default-checked_add c = too_large c.args.digits.now c.loop-digit.digit-index _ _ c.requires c.loop-digit-test.true c.loop-digit.invariant (omega arith)

pub loop-digit-preserved : goal.loop-digit-preserved
loop-digit-preserved c = omega (arith, value_more c.args.digits.now c.loop-digit.digit-index c.requires c.loop-digit-test.true)
