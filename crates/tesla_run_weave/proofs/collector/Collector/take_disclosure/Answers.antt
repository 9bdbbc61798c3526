use Rattle.tesla_run_weave.specs.Rule.{log_of}
use Rattle.tesla_run_weave.proofs.Collected.{disclosure_kept}
use Rattle.tesla_run_weave.proofs.collector.Collector.take_disclosure.Goals as goal

pub returns-in-Ok-add_disclosure-clause-collects : goal.returns-in-Ok-add_disclosure-clause-collects
returns-in-Ok-add_disclosure-clause-collects g c records has =
    let a = c.args in
    let log = log_of g.U.Under.setup records in
    disclosure_kept c.in-Ok.field-0 g.U.Under.setup a.self.now.namer c.judge_disclosure.new.namer a.self.now.plan c.add_disclosure.new.self records a.reading has (c.in-Ok.ensures.answer log has.names) (c.in-Ok.ensures.names log has.names) c.judge_disclosure.ensures.setup c.in-Ok-add_disclosure.ensures
