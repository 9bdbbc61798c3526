use Rattle.std.proofs.Common.{length}
use Rattle.tesla_cli.proofs.program.about.+write_tables.Given as goal

abbrev pub decreases-write_tables : goal.decreases-write_tables
decreases-write_tables g l = length l.tables.now
