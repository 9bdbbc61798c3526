use Rattle.std.proofs.Common.{◌≡◌, List, refl}
use Rattle.tesla_capture.specs.Capture.{Record}
use Rattle.tesla_desk.proofs.Counts.{cause_as, cause_beside_as}
use Rattle.tesla_front.specs.OutcomeView.{result_view}
use Rattle.tesla_front.proofs.Reported.{rose_some}
use Rattle.tesla_run_replay.specs.Playing.{events_in, with_end}
use Rattle.tesla_run_replay.proofs.Ended.{ends_between, read_from, read_to, tells_same, write_from, write_to}
use Rattle.tesla_run_replay.proofs.playing.play_target.Goals as goal

pub returns-clause-plays : goal.returns-clause-plays
returns-clause-plays g c =
    let target = c.convert-converter.result.0.target in
    let rule = g.T.Target.rule in
    let outcome = result_view c.ending_result.result in
    let same : g.L.ReplayLedger.rule ≡ rule c.new.result.converter.target = cc in
    ends_between g.T.Target.may_want g.L.ReplayLedger.rule (rule target) (g.T.Target.has target)
    (g.S.Source.left c.args.source.now) (g.S.Source.left c.convert-converter.new.source) (g.O.Sink.written c.convert-converter.new.out) (g.O.Sink.faults c.convert-converter.new.out)
    (rule c.args.target) (rule c.new.result.converter.target) c.convert-converter.result.1 outcome c.requires.rule same c.convert-converter.ensures.converts
    (tells_same rule g.T.Target.has c.convert-converter.result.1 outcome target c.target.result.now c.target.ensures c.ending_result.ensures)
    (λ e. rose_some 0 (g.O.Sink.faults c.convert-converter.new.out) refl (c.convert-converter.ensures.writes.rose e))
    (λ e. let wants = c.convert-converter.ensures.wants e in (wants.0, c.convert-converter.ensures.writes.still (λ f. absurd cc) (λ f. absurd cc), wants.1))

pub returns-clause-reads : goal.returns-clause-reads
returns-clause-reads g c =
    let rule = g.T.Target.rule c.target.result.now in
    let ended = λ (records : List Record). g.T.Target.has c.target.result.now (with_end rule (events_in records)) in
    let outcome = result_view c.ending_result.result in
    cause_as 0 (g.S.Source.faults c.convert-converter.new.source) c.convert-converter.ensures.reads (read_from rule ended outcome c.convert-converter.result.1 c.ending_result.ensures) (read_to rule ended outcome c.convert-converter.result.1 c.ending_result.ensures)

pub returns-clause-writes : goal.returns-clause-writes
returns-clause-writes g c =
    let rule = g.T.Target.rule c.target.result.now in
    let ended = λ (records : List Record). g.T.Target.has c.target.result.now (with_end rule (events_in records)) in
    let outcome = result_view c.ending_result.result in
    cause_beside_as 0 (g.O.Sink.faults c.convert-converter.new.out) c.convert-converter.ensures.writes (λ hidden. (read_to rule ended outcome c.convert-converter.result.1 c.ending_result.ensures hidden.0, hidden.1))
    (write_from rule ended outcome c.convert-converter.result.1 c.ending_result.ensures) (write_to rule ended outcome c.convert-converter.result.1 c.ending_result.ensures)
