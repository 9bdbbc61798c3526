use Rattle.std.proofs.Common.{length}
use Rattle.tesla_feeds.proofs.stepping.+say_on.Given as goal

abbrev pub decreases-say_on : goal.decreases-say_on
decreases-say_on g l = length l.feeders.now
