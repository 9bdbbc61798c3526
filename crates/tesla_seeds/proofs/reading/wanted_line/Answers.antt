use Rattle.tesla_seeds.proofs.Judging.{wanted_is}
use Rattle.tesla_seeds.proofs.reading.wanted_line.Goals as goal

pub returns-in-Some : goal.returns-in-Some
returns-in-Some c = wanted_is _ _ _ c.in-Some.ensures
