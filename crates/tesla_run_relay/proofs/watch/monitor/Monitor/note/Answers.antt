use Rattle.std.proofs.Common.{◌≡◌, ◌∙◌, codes, ℕ, List, ap, refl, subst, sym}
use Rattle.arrayvec.specs.ArrayVec.{array_vec_len}
use Rattle.tesla_relay.specs.declared.tally.SoFar.{SoFar}
use Rattle.tesla_relay.proofs.Queued.{all_written}
use Rattle.tesla_status.specs.Written.{Puts}
use Rattle.tesla_run_relay.specs.watch.Allowed.{IsNextTally}
use Rattle.tesla_run_relay.specs.watch.Lines.{NoneFalls, TallyLine, status_line, time_text}
use Rattle.tesla_run_relay.specs.watch.Written.{HasTold}
use Rattle.tesla_run_relay.proofs.watch.Told.{falls_size, next_time, told_more}
use Rattle.tesla_run_relay.proofs.watch.monitor.Monitor.note.Goals as goal

pub put-requires : goal.put-requires
put-requires g c =
    let old = c.args.self.now in
    let told = c.raise.new.told in
    let falls : NoneFalls old.told.items told = subst (λ (ts : List SoFar). NoneFalls ts told) c.as_mut_slice.ensures.value c.raise.ensures in
    let filled = all_written (array_vec_len old.told) told old.told.items (falls_size old.told.items told falls) in
    let line : TallyLine = record { time = c.args.now; counts = told; unsent = c.unsent-unsent.result } in
    let is : c.line_of.result.bytes ≡ time_text line = c.line_of.ensures ∙ ap (λ (cs : List SoFar). status_line (codes "time=") c.args.now cs c.unsent-unsent.result) (c.as_slice-2.ensures.value ∙ filled) in
    record {
      allowed = λ still. c.requires.may.2 old.status.sink c.line_of.result.bytes refl
          (subst (λ (piece : List ℕ). IsNextTally g.C.Clock.gave c.requires.may.0 (g.S.Output.written old.status.sink) piece) (sym is)
          (next_time g.C.Clock.gave c.requires.may.0 old.told.items (g.S.Output.written old.status.sink) (g.S.Output.faults old.status.sink) old.status.failed c.requires.may.1 still line c.requires.given falls));
    }

pub returns-clause-told : goal.returns-clause-told
returns-clause-told g c = λ posts has.
    let old = c.args.self.now in
    let new = c.put.new.self in
    let told = c.raise.new.told in
    let falls : NoneFalls old.told.items told = subst (λ (ts : List SoFar). NoneFalls ts told) c.as_mut_slice.ensures.value c.raise.ensures in
    let filled = all_written (array_vec_len old.told) told old.told.items (falls_size old.told.items told falls) in
    let line : TallyLine = record { time = c.args.now; counts = told; unsent = c.unsent-unsent.result } in
    let is : c.line_of.result.bytes ≡ time_text line = c.line_of.ensures ∙ ap (λ (cs : List SoFar). status_line (codes "time=") c.args.now cs c.unsent-unsent.result) (c.as_slice-2.ensures.value ∙ filled) in
    subst (λ (ts : List SoFar). HasTold posts ts (g.S.Output.written new.sink) (g.S.Output.faults new.sink) new.failed) (sym filled)
    (told_more posts old.told.items (g.S.Output.written old.status.sink) (g.S.Output.written new.sink) (g.S.Output.faults old.status.sink) (g.S.Output.faults new.sink) old.status.failed new.failed has line falls
    (subst (λ (text : List ℕ). Puts text (g.S.Output.written old.status.sink) (g.S.Output.written new.sink) (g.S.Output.faults old.status.sink) (g.S.Output.faults new.sink) old.status.failed new.failed) is c.put.ensures.puts))
