use Rattle.std.proofs.Common.{length}
use Rattle.tesla_c.proofs.parameters.+put_delays.Given as goal

abbrev pub decreases-put_delays : goal.decreases-put_delays
decreases-put_delays l = length l.numbers.now
