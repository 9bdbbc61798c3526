use Rattle.std.proofs.Common.{length}
use Rattle.tesla_frame.proofs.writing.+put_key_rows.Given as goal

abbrev pub decreases-put_key_rows : goal.decreases-put_key_rows
decreases-put_key_rows l = length l.rows.now
