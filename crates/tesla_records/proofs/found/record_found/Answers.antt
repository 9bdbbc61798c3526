use Rattle.tesla_records.proofs.PendingTells.{whole_tells, bad_tells}
use Rattle.tesla_records.proofs.found.record_found.Goals as goal

pub returns-in-Whole : goal.returns-in-Whole
returns-in-Whole g c = (let whole = c.in-Whole.ensures in whole_tells _ g.met.F.Format.is g.F.Format.kind_of c.args.bytes.now whole.0 c.in-Whole.size whole.1)

pub returns-in-Bad : goal.returns-in-Bad
returns-in-Bad g c = bad_tells _ g.met.F.Format.is g.F.Format.kind_of c.args.bytes.now c.in-Bad.kind c.in-Bad.ensures
