use Rattle.std.proofs.Common.{length}
use Rattle.tesla_frame.proofs.writing.+put_tag_rows.Given as goal

abbrev pub decreases-put_tag_rows : goal.decreases-put_tag_rows
decreases-put_tag_rows l = length l.tags.now
