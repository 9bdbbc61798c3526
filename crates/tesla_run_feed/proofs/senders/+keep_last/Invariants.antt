use Rattle.std.proofs.Common.{length}
use Rattle.tesla_run_feed.proofs.senders.+keep_last.Given as goal

abbrev pub decreases-keep_last : goal.decreases-keep_last
decreases-keep_last l = length l.list.now.setups.items
