use Rattle.std.proofs.Common.{length}
use Rattle.tesla_run_feed.proofs.senders.+put_schedules.Given as goal

abbrev pub decreases-put_schedules : goal.decreases-put_schedules
decreases-put_schedules l = length l.setups.now
