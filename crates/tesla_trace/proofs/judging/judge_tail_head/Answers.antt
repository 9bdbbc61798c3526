use Rattle.std.proofs.Common.{refl}
use Rattle.tesla_trace.specs.Parsing.{parse_tail, parse_first}
use Rattle.tesla_trace.proofs.judging.judge_tail_head.Goals as goal

pub returns-in-true : goal.returns-in-true
unfolding parse_tail
returns-in-true c = c.is_part.ensures.awaits parse_first c.in-true.is refl

pub returns-in-false : goal.returns-in-false
unfolding parse_tail
returns-in-false c = c.is_part.ensures.none parse_first c.in-false.is
