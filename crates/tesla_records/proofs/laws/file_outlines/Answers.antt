use Rattle.tesla_records.specs.Records.{AtEnd, Recorded, Refuses}
use Rattle.tesla_records.proofs.OutlineStep.{one_step}
use Rattle.tesla_records.proofs.laws.file_outlines.Goals as goal

pub returns-clause-ended : goal.returns-clause-ended
returns-clause-ended g c = λ offset rest e. one_step g.F.Format.grammar g.met.F.Format.is offset rest AtEnd e

pub returns-clause-one : goal.returns-clause-one
returns-clause-one g c = λ offset now rest after first e. one_step g.F.Format.grammar g.met.F.Format.is offset rest (Recorded first now after) e

pub returns-clause-refused : goal.returns-clause-refused
returns-clause-refused g c = λ offset at rest refusal e. one_step g.F.Format.grammar g.met.F.Format.is offset rest (Refuses at refusal) e
