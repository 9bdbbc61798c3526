use Rattle.tesla_early.proofs.Accepted.{learnt_once, learnt_rises, learnt_taught, taught_learnt}
use Rattle.tesla_early.proofs.laws.taught.Goals as goal

pub returns-clause-learnt : goal.returns-clause-learnt
returns-clause-learnt c = taught_learnt

pub returns-clause-only : goal.returns-clause-only
returns-clause-only c = learnt_taught

pub returns-clause-one : goal.returns-clause-one
returns-clause-one c = learnt_once

pub returns-clause-order : goal.returns-clause-order
returns-clause-order c = learnt_rises
