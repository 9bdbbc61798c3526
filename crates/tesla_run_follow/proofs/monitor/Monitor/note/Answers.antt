use Rattle.std.proofs.Common.{◌≡◌, ◌∙◌, ◌+◌, ℕ, List, length, ap, rules, subst, sym}
use Rattle.std.proofs.Math.Logic.{∥∥₁_map}
use denote.Ref.{Bor}
use Rattle.tesla_status.specs.Written.{Puts}
use Rattle.tesla_run_receive.specs.watch.Lines.{Columns, columns_of, line_at, line_text}
use Rattle.tesla_run_receive.specs.watch.Written.{AreNoted, Notes}
use Rattle.tesla_run_receive.proofs.watch.Counts.{sized}
use Rattle.tesla_run_receive.proofs.watch.Noted.{are_more, columns_same, notes_more}
use Rattle.tesla_run_follow.proofs.monitor.Monitor.note.Goals as goal

pub invariant_of-self : goal.invariant_of-self
invariant_of-self g c =
    let self = c.args.self.now in
    let old = self.writer in
    let new = c.put.new.self in
    let counts = c.read-counts.new.self.counts in
    let columns = columns_of old.chains old.names.now in
    let put = c.put.ensures in
    let (facts, running, puts) = put.puts in
    let named = ap (λ n. n.now) put.columns.1 in
    let size : length counts ≡ 19 + length old.names.now = ap (λ (cs : List ℕ). length cs) (sym c.read-counts.ensures.counts) ∙ search rules in
    record {
      size = self.size ∙ ap (λ (ns : List (Bor (List ℕ))). 19 + length ns) (sym named);
      noted = ∥∥₁_map self.noted (λ are. subst (λ (them : Columns). AreNoted them counts (g.S.Output.written new.status.sink) (g.S.Output.faults new.status.sink) new.status.failed) (columns_same new.chains old.chains new.names.now old.names.now put.columns.0 named)
          (are_more columns old.few facts self.reader.counts counts (sized old.names.now counts size) (g.S.Output.written old.status.sink) (g.S.Output.written new.status.sink) (g.S.Output.faults old.status.sink) (g.S.Output.faults new.status.sink) old.status.failed new.status.failed
          running are c.read-counts.ensures.rise
          (subst (λ (cs : List ℕ). Puts (line_text columns.names (line_at facts columns.chains cs)) (g.S.Output.written old.status.sink) (g.S.Output.written new.status.sink) (g.S.Output.faults old.status.sink) (g.S.Output.faults new.status.sink) old.status.failed new.status.failed) c.read-counts.ensures.counts puts)));
    }

pub returns-clause-notes : goal.returns-clause-notes
returns-clause-notes g c before first noted =
    let self = c.args.self.now in
    let old = self.writer in
    let new = c.put.new.self in
    let counts = c.read-counts.new.self.counts in
    let columns = columns_of old.chains old.names.now in
    let put = c.put.ensures in
    let (facts, running, puts) = put.puts in
    let named = ap (λ n. n.now) put.columns.1 in
    let size : length counts ≡ 19 + length old.names.now = ap (λ (cs : List ℕ). length cs) (sym c.read-counts.ensures.counts) ∙ search rules in
    subst (λ (them : Columns). Notes them counts before (g.S.Output.written new.status.sink) first (g.S.Output.faults new.status.sink) new.status.failed) (columns_same new.chains old.chains new.names.now old.names.now put.columns.0 named)
    (notes_more columns old.few facts self.reader.counts counts (sized old.names.now counts size) before (g.S.Output.written old.status.sink) (g.S.Output.written new.status.sink) first (g.S.Output.faults old.status.sink) (g.S.Output.faults new.status.sink) old.status.failed new.status.failed
    running noted c.read-counts.ensures.rise
    (subst (λ (cs : List ℕ). Puts (line_text columns.names (line_at facts columns.chains cs)) (g.S.Output.written old.status.sink) (g.S.Output.written new.status.sink) (g.S.Output.faults old.status.sink) (g.S.Output.faults new.status.sink) old.status.failed new.status.failed) c.read-counts.ensures.counts puts))
