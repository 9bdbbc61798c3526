use Rattle.tesla_early.proofs.Each.{is_woven_at, length-woven, woven_read}
use Rattle.tesla_early.proofs.payload_laws.weaving.Goals as goal

pub returns-clause-each : goal.returns-clause-each
returns-clause-each c = is_woven_at

pub returns-clause-many : goal.returns-clause-many
returns-clause-many c = length-woven

pub returns-clause-read : goal.returns-clause-read
returns-clause-read c = woven_read
