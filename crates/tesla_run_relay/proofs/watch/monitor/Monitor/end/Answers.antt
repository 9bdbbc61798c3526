use Rattle.std.proofs.Common.{◌≡◌, ◌∙◌, ◌++◌, codes, ℕ, List, map, ap, refl, subst, sym}
use Rattle.tesla_relay.specs.declared.tally.SoFar.{SoFar}
use Rattle.tesla_status.specs.Written.{Puts}
use Rattle.tesla_run_relay.specs.watch.Allowed.{IsNextTally}
use Rattle.tesla_run_relay.specs.watch.Lines.{TallyLine, end_text, numbers_of, status_line}
use Rattle.tesla_run_relay.proofs.watch.Told.{next_last, numbers_size, told_all}
use Rattle.tesla_run_relay.proofs.watch.monitor.Monitor.end.Goals as goal

pub put-requires : goal.put-requires
put-requires g c =
    let old = c.args.self.now in
    let counts = c.add_numbers.new.counts.items in
    let numbers : counts ≡ map numbers_of c.args.relayed.now.counts.items = c.add_numbers.ensures ∙ ap (λ (none : List SoFar). none ++ map numbers_of c.args.relayed.now.counts.items) c.new-counts.ensures in
    let line : TallyLine = record { time = c.now-now.result; counts = counts; unsent = c.unsent-unsent.result } in
    let is : c.line_of.result.bytes ≡ end_text line = c.line_of.ensures ∙ ap (λ (cs : List SoFar). status_line (codes "end=") c.now-now.result cs c.unsent-unsent.result) c.as_slice.ensures.value in
    record {
      allowed = λ still. c.requires.may.1 old.status.sink c.line_of.result.bytes refl
          (subst (λ (piece : List ℕ). IsNextTally g.C.Clock.gave c.args.posts (g.S.Output.written old.status.sink) piece) (sym is)
          (next_last g.C.Clock.gave c.args.posts old.told.items (g.S.Output.written old.status.sink) (g.S.Output.faults old.status.sink) old.status.failed c.requires.may.0 still line c.now-now.ensures.gave
          (numbers_size c.args.posts c.args.relayed.now.counts.items counts c.requires.posts numbers)));
    }

pub returns-clause-told : goal.returns-clause-told
returns-clause-told g c =
    let old = c.args.self.now in
    let new = c.put.new.self in
    let counts = c.add_numbers.new.counts.items in
    let numbers : counts ≡ map numbers_of c.args.relayed.now.counts.items = c.add_numbers.ensures ∙ ap (λ (none : List SoFar). none ++ map numbers_of c.args.relayed.now.counts.items) c.new-counts.ensures in
    let line : TallyLine = record { time = c.now-now.result; counts = counts; unsent = c.unsent-unsent.result } in
    let is : c.line_of.result.bytes ≡ end_text line = c.line_of.ensures ∙ ap (λ (cs : List SoFar). status_line (codes "end=") c.now-now.result cs c.unsent-unsent.result) c.as_slice.ensures.value in
    told_all c.args.posts old.told.items (g.S.Output.written old.status.sink) (g.S.Output.written new.sink) (g.S.Output.faults old.status.sink) (g.S.Output.faults new.sink) old.status.failed new.failed c.requires.may.0 line c.args.relayed.now.counts.items numbers
    (subst (λ (text : List ℕ). Puts text (g.S.Output.written old.status.sink) (g.S.Output.written new.sink) (g.S.Output.faults old.status.sink) (g.S.Output.faults new.sink) old.status.failed new.failed) is c.put.ensures.puts)
