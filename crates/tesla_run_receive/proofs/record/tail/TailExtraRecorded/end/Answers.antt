use Rattle.std.proofs.Common.{◌≡◌, ◌∙◌, ℕ, false, List, subst}
use Rattle.tesla_desk.specs.Faults.{HasCause}
use Rattle.tesla_desk.specs.Outside.{ClosesSink, page_of}
use Rattle.tesla_turn.specs.History.{entries}
use Rattle.tesla_run_receive.specs.record.Allowed.{GoesOn}
use Rattle.tesla_run_receive.specs.record.Record.{HoldsTail, tail_of}
use Rattle.tesla_run_receive.proofs.record.Tailed.{fails_unwritten, holds_tail}
use Rattle.tesla_run_receive.proofs.record.tail.TailExtraRecorded.end.Goals as goal

pub write_tail-written-requires-clause-empty : goal.write_tail-written-requires-clause-empty
write_tail-written-requires-clause-empty g c =
    let (extra, begun) = c.requires.begun in begun.0.1

pub write_tail-written-requires-clause-allowed : goal.write_tail-written-requires-clause-allowed
write_tail-written-requires-clause-allowed g c =
    let (extra, begun) = c.requires.begun in
    let (log, stands, calls) = c.requires.stood in (
      entries log,
      stands,
      λ it piece named goes. begun.1 it piece (named ∙ begun.0.3) (record {
        log = log;
        legal = stands.stood.legal;
        calls = calls;
        goes_on = subst (λ (n : ℕ). GoesOn (tail_of n (entries log)) (g.D.Pieces.Output.written it) piece) begun.0.0 goes;
      }),
    )

pub returns : goal.returns
returns g c extra h begun stands =
    let fresh = g.D.Pieces.Output.written c.args.begun.it in
    let sink = c.write_tail-written.new.sink in
    let written = g.D.Pieces.Output.written sink in
    let count = g.D.Pieces.Output.faults sink in
    let made = c.write_tail-written.ensures in
    let cause = subst (λ (n : ℕ). HasCause n count (c.write_tail-written.result ≡ false)) begun.0.2 made.cause in
    let keep = c.args.station.keep in
    record {
      written = written;
      faults = count;
      holds = subst (λ (n : ℕ). HoldsTail n h (page_of written count)) begun.0.0 (holds_tail keep h fresh written count c.write_tail-written.result begun.0.1 (made.all h stands) (made.prefix h stands) cause);
      cause = fails_unwritten count c.write_tail-written.result cause;
      closes = subst (λ (name : List ℕ). ClosesSink name written count (g.D.Environment.told c.args.desk.now) (g.D.Environment.told c.close_output.new.self)) (made.name ∙ begun.0.3) c.close_output.ensures.desk;
    }
