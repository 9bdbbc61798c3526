use Rattle.std.proofs.Common.{length}
use Rattle.tesla_follow.proofs.asking.+end_all.Given as goal

abbrev pub decreases-end_all : goal.decreases-end_all
decreases-end_all l = length l.epochs.now
