use Rattle.tesla_records.proofs.PendingTells.{head_whole_tells}
use Rattle.tesla_records.proofs.found.head_found.Goals as goal

pub returns-in-Whole : goal.returns-in-Whole
returns-in-Whole g c = head_whole_tells _ g.met.F.Format.is g.F.Format.head_of c.args.bytes.now c.in-Whole.head c.in-Whole.ensures
