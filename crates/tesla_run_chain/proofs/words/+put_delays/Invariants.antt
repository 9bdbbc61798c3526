use Rattle.std.proofs.Common.{length}
use Rattle.tesla_run_chain.proofs.words.+put_delays.Given as goal

abbrev pub decreases-put_delays : goal.decreases-put_delays
decreases-put_delays l = length l.words.now
