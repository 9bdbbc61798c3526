use Rattle.std.proofs.Common.{refl}
use Rattle.tesla_clock.specs.Schedule.{bound_of}
use Rattle.tesla_example.proofs.laws.bounds.Goals as goal

pub returns-clause-first : goal.returns-clause-first
unfolding bound_of
returns-clause-first c = refl

pub returns-clause-second : goal.returns-clause-second
unfolding bound_of
returns-clause-second c = refl

pub returns-clause-third : goal.returns-clause-third
unfolding bound_of
returns-clause-third c = refl
