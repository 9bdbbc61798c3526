use Rattle.std.proofs.Common.{refl}
use Rattle.tesla_trace.specs.Parsing.{parse_head, parse_ingests}
use Rattle.tesla_trace.proofs.judging.judge_head.Goals as goal

pub returns-in-true : goal.returns-in-true
unfolding parse_head
returns-in-true c = c.is_part.ensures.awaits parse_ingests c.in-true.is refl

pub returns-in-false : goal.returns-in-false
unfolding parse_head
returns-in-false c = c.is_part.ensures.none parse_ingests c.in-false.is
