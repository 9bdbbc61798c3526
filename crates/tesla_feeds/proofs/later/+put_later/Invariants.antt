use Rattle.std.proofs.Common.{length}
use Rattle.tesla_feeds.proofs.later.+put_later.Given as goal

abbrev pub decreases-put_later : goal.decreases-put_later
decreases-put_later l = length l.setups.now
