use Rattle.std.proofs.Common.{length}
use Rattle.tesla_feeds.proofs.waits.+have_told_all.Given as goal

abbrev pub decreases-have_told_all : goal.decreases-have_told_all
decreases-have_told_all l = length l.feeders.now
