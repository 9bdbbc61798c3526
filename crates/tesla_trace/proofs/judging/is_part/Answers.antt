use Rattle.tesla_trace.proofs.Judged.{is_part_awaits, is_part_none}
use Rattle.tesla_trace.proofs.judging.is_part.Goals as goal

pub returns-clause-awaits : goal.returns-clause-awaits
returns-clause-awaits c behind same none = is_part_awaits c.args.magic.now c.args.bytes.now c.eq.result behind c.eq.ensures c.requires same none

pub returns-clause-none : goal.returns-clause-none
returns-clause-none c behind other = is_part_none c.args.magic.now c.args.bytes.now c.eq.result behind c.eq.ensures c.requires other
