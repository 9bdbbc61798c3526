use Rattle.std.proofs.Common.{length}
use Rattle.tesla_cli.proofs.program.about.+write_forms.Given as goal

-- each call of itself has one form less
abbrev pub decreases-write_forms : goal.decreases-write_forms
decreases-write_forms g l = length l.forms.now
