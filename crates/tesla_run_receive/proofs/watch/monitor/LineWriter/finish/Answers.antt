use Rattle.std.proofs.Common.{◌≡◌, Bool, true, false, not, refl, subst}
use Rattle.tesla_run_receive.specs.watch.Lines.{columns_of, counted_at}
use Rattle.tesla_run_receive.specs.watch.Written.{WritesStatus}
use Rattle.tesla_run_receive.proofs.watch.Counts.{sized}
use Rattle.tesla_run_receive.proofs.watch.Noted.{writes_last}
use Rattle.tesla_run_receive.proofs.watch.monitor.LineWriter.finish.Goals as goal

not_not : (b : Bool) → b ≡ not (not b)
not_not true = refl
not_not false = refl

pub put-requires-clause-noted : goal.put-requires-clause-noted
put-requires-clause-noted g c =
    let (earlier, are, falls) = c.requires.noted in
    (earlier, ∣ are ∣₁, falls)

pub returns-clause-writes : goal.returns-clause-writes
returns-clause-writes g c =
    let old = c.args.self in
    let new = c.put.new.self in
    let columns = columns_of old.chains old.names.now in
    let (earlier, are, falls) = c.requires.noted in
    let (facts, last, puts) = c.put.ensures.puts in
    let written = g.S.Output.written new.status.sink in
    let count = g.S.Output.faults new.status.sink in
    let writes = writes_last columns old.few facts earlier c.args.counts.now (sized old.names.now c.args.counts.now c.requires.size) are.before (g.S.Output.written old.status.sink) written (g.S.Output.faults old.status.sink) count old.status.failed new.status.failed last are.empty are.noted falls puts in
    (are.before, subst (λ (failed : Bool). WritesStatus columns (counted_at old.chains c.args.counts.now) are.before written count failed) (not_not new.status.failed) writes)
