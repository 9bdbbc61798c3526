use Rattle.std.proofs.Common.{arith}
use Rattle.std.proofs.lemmas.List.{length-take}
use Rattle.tesla_frame.proofs.writing.put_tag_row.Goals as goal

pub returns-in-None-clause-row : goal.returns-in-None-clause-row
returns-in-None-clause-row c = record { tag = omega (arith, length-take c.args.tag.now.length c.args.tag.now.bytes); bytes = c.put-at.ensures.bytes; key = rw c.in-None.is tt }

pub returns-in-Some-clause-row : goal.returns-in-Some-clause-row
returns-in-Some-clause-row c = record { tag = omega (arith, length-take c.args.tag.now.length c.args.tag.now.bytes); bytes = c.put-at.ensures.bytes; key = rw c.in-Some.is (omega arith, c.put-in-Some.ensures.bytes) }
