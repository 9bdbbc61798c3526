use Rattle.std.proofs.Common.{sym}
use Rattle.tesla_run_audit.proofs.show.Shown.{headless_is, tail_shown, trace_shown}
use Rattle.tesla_run_audit.proofs.show.run.list_file.Goals as goal

pub as_format-tail-requires : goal.as_format-tail-requires
as_format-tail-requires g c =
    let it = headless_is c.list_entries-listed.result (sym c.if-is_headless.ensures) in
    c.list_entries-listed.ensures.headless it.0 it.1

pub returns-then-is_headless-clause-shows : goal.returns-then-is_headless-clause-shows
returns-then-is_headless-clause-shows g c =
    tail_shown c.list_entries-listed.result c.list_entries.result c.new-trace.result c.list_entries-listed.new.reader c.as_format-tail.result _ _ _ _ _ _ _ _ _ _ c.new-trace.ensures.pending c.requires.none (sym c.if-is_headless.ensures) c.as_format-tail.ensures.pending c.list_entries-listed.ensures.lists c.list_entries.ensures.lists

pub returns-else-is_headless-clause-shows : goal.returns-else-is_headless-clause-shows
returns-else-is_headless-clause-shows g c =
    trace_shown c.list_entries-listed.result c.new-trace.result _ _ _ _ _ _ _ c.new-trace.ensures.pending c.requires.none (sym c.if-is_headless.ensures) c.list_entries-listed.ensures.lists
