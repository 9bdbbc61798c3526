use Rattle.tesla_early.proofs.Keeping.{none_stands}
use Rattle.tesla_early.proofs.early.Early.open.Goals as goal

pub returns-clause-stands : goal.returns-clause-stands
returns-clause-stands c = none_stands (record { receiver = c.args.receiver; promises = c.in_ok-open.field-0 }) c.requires.stands c.in_ok-open.ensures.none
