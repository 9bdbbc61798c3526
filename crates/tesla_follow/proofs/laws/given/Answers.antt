use Rattle.tesla_follow.proofs.Telling.{told_once}
use Rattle.tesla_follow.proofs.laws.given.Goals as goal

pub returns : goal.returns
returns c = told_once
