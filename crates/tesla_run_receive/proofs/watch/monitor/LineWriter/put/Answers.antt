use Rattle.std.proofs.Common.{◌∙◌, ℕ, List, ap, refl, subst, sym}
use Rattle.std.proofs.Math.Logic.{∥∥₁_elim}
use mathlib.Core.Bool.{Bool-set}
use Rattle.tesla_status.specs.Written.{Puts}
use Rattle.tesla_run_receive.specs.watch.Allowed.{IsNextLine}
use Rattle.tesla_run_receive.specs.watch.Lines.{columns_of}
use Rattle.tesla_run_receive.proofs.watch.Counts.{sized}
use Rattle.tesla_run_receive.proofs.watch.Noted.{next_line}
use Rattle.tesla_run_receive.proofs.watch.monitor.LineWriter.put.Goals as goal

pub put-requires : goal.put-requires
put-requires g c =
    let old = c.args.self.now in
    let facts = c.facts_of-facts.result in
    let columns = columns_of old.chains old.names.now in
    let (earlier, are, falls) = c.requires.noted in
    record {
      allowed = λ still. ∥∥₁_elim are (Bool-set _ _) (λ noted. old.allowed _ _ refl
          (subst (λ (piece : List ℕ). IsNextLine g.C.Clock.gave columns (g.S.Output.written old.status.sink) piece) (sym c.line_of.ensures)
          (next_line columns old.few facts earlier c.args.counts.now (sized old.names.now c.args.counts.now c.requires.size) g.C.Clock.gave (g.S.Output.written old.status.sink) (g.S.Output.faults old.status.sink) old.status.failed noted still falls
          (ap (λ (time : ℕ). g.C.Clock.gave time) c.facts_of-facts.ensures.1 ∙ c.requires.given))));
    }

pub returns-clause-puts : goal.returns-clause-puts
returns-clause-puts g c =
    let old = c.args.self.now in
    let new = c.put.new.self in
    (c.facts_of-facts.result, c.facts_of-facts.ensures.0, subst (λ (text : List ℕ). Puts text (g.S.Output.written old.status.sink) (g.S.Output.written new.sink) (g.S.Output.faults old.status.sink) (g.S.Output.faults new.sink) old.status.failed new.failed) c.line_of.ensures c.put.ensures.puts)
