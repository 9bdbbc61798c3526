use Rattle.std.proofs.Common.{◌-◌, ◌^◌, arith}
use Rattle.tesla_base.proofs.Spellings.{number_read, number_spelled}
use Rattle.tesla_base.proofs.number.read_decimal.Goals as goal

pub returns-clause-found : goal.returns-clause-found
returns-clause-found c = rw c.number.ensures.exact (number_spelled (2 ^ 64 - 1) 0 c.args.text.now (omega arith))

pub returns-clause-only : goal.returns-clause-only
returns-clause-only c = λ n small is. rw c.number.ensures.exact (number_read (2 ^ 64 - 1) 0 n c.args.text.now (omega arith) small is)
