use Rattle.std.proofs.Common.{◌∙◌, vec_len, ◌++◌, List, ap}
use Rattle.tesla_relay.specs.declared.tally.SoFar.{SoFar}
use Rattle.tesla_run_relay.specs.watch.Lines.{no_counts}
use Rattle.tesla_run_relay.proofs.watch.Told.{told_none}
use Rattle.tesla_run_relay.proofs.watch.monitor.monitor_over.Goals as goal

pub returns-clause-told : goal.returns-clause-told
returns-clause-told g c =
    told_none (vec_len c.args.tallies) c.add_none.new.counts.items (g.D.Pieces.Output.written c.args.sink) (g.D.Pieces.Output.faults c.args.sink) c.requires.empty c.requires.fresh
    (c.add_none.ensures ∙ ap (λ (none : List SoFar). none ++ no_counts c.len.result) c.new-told.ensures ∙ ap no_counts c.len.ensures)
