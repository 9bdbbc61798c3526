use Rattle.std.proofs.Common.{refl}
use Rattle.tesla_clock.specs.Schedule.{bound_of}
use Rattle.tesla_receiver.specs.Keys.{newest}
use Rattle.tesla_stream_tests.proofs.tests.receiver.costs_of_far_keys.Goals as goal

pub returns : goal.returns
unfolding bound_of newest
returns c = λ key tag. (refl, refl, refl, refl)
