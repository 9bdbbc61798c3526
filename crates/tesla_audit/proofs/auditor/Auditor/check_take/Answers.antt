use Rattle.tesla_receiver.specs.History.{Takes}
use Rattle.tesla_audit.proofs.Checked.{keeps_short, seen_after}
use Rattle.tesla_audit.proofs.auditor.Auditor.check_take.Goals as goal

pub is_same_payload-requires : goal.is_same_payload-requires
is_same_payload-requires c = keeps_short c.take-right.result _ _ c.take-right.ensures.behind

pub returns-clause-stands : goal.returns-clause-stands
returns-clause-stands c = seen_after c.self.inside.receiver c.args.self.now c.take-right.new.self (Takes c.args.releaser) c.self.view_is c.take-right.ensures.stands
