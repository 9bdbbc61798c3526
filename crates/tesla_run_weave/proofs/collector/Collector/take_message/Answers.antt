use Rattle.tesla_run_weave.specs.Rule.{log_of}
use Rattle.tesla_run_weave.proofs.Collected.{message_kept, message_refused, message_wanting}
use Rattle.tesla_run_weave.proofs.collector.Collector.take_message.Goals as goal

pub returns-in-Err-clause-collects : goal.returns-in-Err-clause-collects
returns-in-Err-clause-collects g c records has =
    let a = c.args in
    message_refused g.U.Under.setup a.self.now.namer c.judge_message.new.namer a.self.now.plan records a.reading a.body.now c.in-Err.kind has (c.in-Err.ensures.answer (log_of g.U.Under.setup records) has.names)

pub returns-in-Ok-add_message-clause-collects : goal.returns-in-Ok-add_message-clause-collects
returns-in-Ok-add_message-clause-collects g c records has =
    let a = c.args in
    let log = log_of g.U.Under.setup records in
    message_kept g.U.Under.setup a.self.now.namer c.judge_message.new.namer a.self.now.plan c.add_message.new.self records a.reading a.body.now c.in-Ok.name has (c.in-Ok.ensures.answer log has.names) (c.in-Ok.ensures.names log has.names) c.judge_message.ensures.setup c.in-Ok-add_message.ensures

pub returns-in-Err-add_message-clause-collects : goal.returns-in-Err-add_message-clause-collects
returns-in-Err-add_message-clause-collects g c records has =
    let a = c.args in
    message_wanting g.U.Under.setup a.self.now.namer c.judge_message.new.namer a.self.now.plan a.self.now.plan records a.reading a.body.now c.in-Ok.name has (c.in-Ok.ensures.answer (log_of g.U.Under.setup records) has.names)
