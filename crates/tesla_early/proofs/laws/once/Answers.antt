use Rattle.tesla_early.proofs.UsedOnce.{used_once, uses_early, one_teacher, uses_one_taught}
use Rattle.tesla_early.proofs.laws.once.Goals as goal

pub returns-clause-uses : goal.returns-clause-uses
returns-clause-uses c = uses_one_taught

pub returns-clause-only : goal.returns-clause-only
returns-clause-only c = uses_early

pub returns-clause-one : goal.returns-clause-one
returns-clause-one c = one_teacher

pub returns-clause-once : goal.returns-clause-once
returns-clause-once c = used_once
