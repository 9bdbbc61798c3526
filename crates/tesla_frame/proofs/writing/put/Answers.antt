use Rattle.std.proofs.Common.{arith}
use Rattle.tesla_base.proofs.Prefixes.{bytes_from}
use Rattle.tesla_frame.proofs.Begun.{begins_put}
use Rattle.tesla_frame.proofs.writing.put.Goals as goal

pub returns-clause-text : goal.returns-clause-text
returns-clause-text c = λ text before len begun.
    begins_put text c.args.piece.now before c.args.into.now c.copy_from_slice.new.self c.args.at c.copy_from_slice.ensures.after len begun

pub returns-clause-bytes : goal.returns-clause-bytes
returns-clause-bytes c = bytes_from c.args.piece.now (λ i. omega (arith, c.type_inv.piece i))
