use Rattle.std.proofs.Common.{length}
use Rattle.tesla_front.proofs.console.+write_usage.Given as goal

-- proposed from what the function passes where it calls itself
abbrev pub decreases-write_usage : goal.decreases-write_usage
decreases-write_usage g l = length l.forms.now
