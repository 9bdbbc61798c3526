use Rattle.tesla_base.proofs.Spellings.{signed_read, signed_spelled}
use Rattle.tesla_base.proofs.number.read_signed.Goals as goal

pub returns-clause-found : goal.returns-clause-found
returns-clause-found c = rw c.signed.ensures (signed_spelled c.args.text.now)

pub returns-clause-only : goal.returns-clause-only
returns-clause-only c = λ z fits is. rw c.signed.ensures (signed_read z c.args.text.now fits is)
