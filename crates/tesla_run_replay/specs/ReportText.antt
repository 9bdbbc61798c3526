-- The lines that tell the counts of a receiver.
use Rattle.std.specs.Prelude.{ℕ, List, ◌++◌, codes}
use Rattle.tesla_front.specs.Lines.{count_line}
use Rattle.tesla_state.specs.declared.report.Report.{Report}

-- the lines of a report
unfoldable pub report_text : Report → List ℕ
report_text report =
    count_line (codes "arrivals") report.arrivals ++ count_line (codes "malformed") report.malformed ++ count_line (codes "foreign") report.foreign
    ++ count_line (codes "misfit") report.misfit ++ count_line (codes "future") report.future ++ count_line (codes "badkey") report.badkey
    ++ count_line (codes "late") report.late ++ count_line (codes "repeat") report.repeat ++ count_line (codes "full") report.full
    ++ count_line (codes "kept") report.kept ++ count_line (codes "keys") report.keys ++ count_line (codes "given") report.given
