use Rattle.std.proofs.Common.{length}
use Rattle.tesla_run_feed.proofs.senders.+open_later.Given as goal

abbrev pub decreases-open_later : goal.decreases-open_later
decreases-open_later g l = length l.list.now.setups.items
