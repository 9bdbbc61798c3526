use Rattle.tesla_trace.specs.Shown.{entry_seen}
use Rattle.tesla_trace.proofs.Judged.{rest_fewer, entry_parsed}
use Rattle.tesla_trace.proofs.judging.judge_entry.Goals as goal

pub overflow_sub-result : goal.overflow_sub-result
overflow_sub-result c = rest_fewer c.args.bytes.now c.in-Read.rest.now (entry_seen c.in-Read.field-0) c.in-Read.ensures.exact

pub returns-in-Read : goal.returns-in-Read
returns-in-Read c = (entry_seen c.in-Read.field-0, entry_parsed c.args.bytes.now c.in-Read.rest.now (entry_seen c.in-Read.field-0) c.in-Read.ensures.exact)
