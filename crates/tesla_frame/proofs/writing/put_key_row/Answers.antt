use Rattle.std.proofs.Common.{arith, subst}
use Rattle.tesla_base.specs.Prefix.{AreBytes}
use Rattle.tesla_frame.proofs.writing.put_key_row.Goals as goal

pub returns-clause-row : goal.returns-clause-row
returns-clause-row c = record { chain = (let bytes = subst AreBytes c.key_head-header.ensures.bytes c.put-at.ensures.bytes in bytes.0); index = c.key_head-header.ensures.index; key = (omega arith, c.put.ensures.bytes) }
