-- What follow prints at the end.
use Rattle.std.specs.Prelude.{ℕ, List, ◌++◌, length, codes}
use Rattle.tesla_follow.specs.Counted.{report_over}
use Rattle.tesla_follow.specs.Followed.{Followed}
use Rattle.tesla_front.specs.Lines.{count_line}
use Rattle.tesla_run_replay.specs.ReportText.{report_text}

-- the lines of what a history made: how many epochs there were, the counts of all epochs together, how many records were of messages that were accepted on arrival, how many promised messages found no place, and how many packets were dropped
unfoldable pub follow_text : Followed → List ℕ
follow_text it =
    count_line (codes "epochs") (length it.epochs) ++ report_text (report_over it.epochs) ++ count_line (codes "early") it.early ++ count_line (codes "unqueued") it.unqueued ++ count_line (codes "dropped") it.dropped
