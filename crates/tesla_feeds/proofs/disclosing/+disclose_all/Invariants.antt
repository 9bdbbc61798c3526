use Rattle.std.proofs.Common.{length}
use Rattle.tesla_feeds.proofs.disclosing.+disclose_all.Given as goal

abbrev pub decreases-disclose_all : goal.decreases-disclose_all
decreases-disclose_all g l = length l.feeders.now
