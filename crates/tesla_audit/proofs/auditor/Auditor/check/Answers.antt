use Rattle.tesla_audit.proofs.Checked.{arrival_after, end_after, take_after}
use Rattle.tesla_audit.proofs.auditor.Auditor.check.Goals as goal

pub returns-in-Arrival-clause-stands : goal.returns-in-Arrival-clause-stands
returns-in-Arrival-clause-stands g c = arrival_after c.args.entry.now c.from.result c.args.self.now c.check_arrival.new.self c.in-Arrival.is c.from.ensures c.check_arrival.ensures.stands

pub returns-in-Take-clause-stands : goal.returns-in-Take-clause-stands
returns-in-Take-clause-stands g c = take_after c.args.entry.now c.args.self.now c.check_take.new.self c.in-Take.is c.check_take.ensures.stands

pub returns-in-End-clause-stands : goal.returns-in-End-clause-stands
returns-in-End-clause-stands g c = end_after c.args.entry.now c.self.inside.receiver c.args.self.now c.end.new.self c.in-End.is c.self.view_is c.end.ensures.stands
