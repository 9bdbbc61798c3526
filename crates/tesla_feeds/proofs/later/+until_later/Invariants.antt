use Rattle.std.proofs.Common.{length}
use Rattle.tesla_feeds.proofs.later.+until_later.Given as goal

abbrev pub decreases-until_later : goal.decreases-until_later
decreases-until_later l = length l.later.now
