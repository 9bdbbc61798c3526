use Rattle.std.proofs.Common.{◌∙◌, ◌≡◌, ◌+◌, [], IfSome, List, ℕ, ap, inr, length, subst, sym}
use denote.Ref.{Bor}
use Rattle.tesla_desk.proofs.Counts.{cause_as}
use Rattle.tesla_desk.specs.Outside.{MakesClock, Told}
use Rattle.tesla_run_receive.specs.watch.Lines.{columns_of}
use Rattle.tesla_run_receive.proofs.watch.Noted.{are_new, columns_same, monitored_none}
use Rattle.tesla_run_follow.proofs.monitoring.MonitoringExtraCountedFollower.begin.Goals as goal

pub invariant_of-result : goal.invariant_of-result
invariant_of-result g c =
    let made = c.in_ok-sink.ensures in
    let writer = c.new-writer.result in
    let new = c.new-writer.ensures in
    record {
      size = sym (ap (λ (names : List (Bor (List ℕ))). 19 + length names) new.columns.1);
      noted = ∣ are_new (columns_of writer.chains writer.names.now) c.args.self.reader.counts (g.D.Pieces.Output.written writer.status.sink) (g.D.Pieces.Output.faults writer.status.sink) writer.status.failed
          (subst (λ it. IfSome (g.D.Pieces.Output.written it) (λ bytes. bytes ≡ [])) (sym new.sink.0) made.empty) (ap (λ it. g.D.Pieces.Output.faults it) new.sink.0 ∙ made.fresh) new.sink.1 ∣₁;
    }

pub returns-clause-opened : goal.returns-clause-opened
returns-clause-opened g c =
    let opened : Told = g.D.Environment.told c.open_output.new.self in
    let opens = c.in_ok-sink.ensures.desk in
    let counts = opens.counts in (
      opened,
      record {
        refused = tt;
        pages = opens.pages;
        lefts = opens.lefts;
        counts = record { reads = counts.reads; writes = counts.writes; openings = cause_as _ _ counts.openings (λ e. absurd cc) (λ e. absurd cc) };
        asked = opens.asked;
        live = opens.live;
      },
      inr (subst (λ (now : Told). MakesClock opened now) (sym c.incidents-events.ensures.desk) c.clock-clock.ensures.desk),
    )

pub returns-clause-begun : goal.returns-clause-begun
returns-clause-begun g c cfg fits =
    let made = c.in_ok-sink.ensures in
    let writer = c.new-writer.result in
    let new = c.new-writer.ensures in
    monitored_none (subst (λ it. IfSome (g.D.Pieces.Output.written it) (λ bytes. bytes ≡ [])) (sym new.sink.0) made.empty) (ap (λ it. g.D.Pieces.Output.faults it) new.sink.0 ∙ made.fresh) new.sink.1
    (ap (λ it. g.D.Pieces.Output.name it) new.sink.0 ∙ made.named) fits
    (columns_same 8 writer.chains _ writer.names.now (sym new.columns.0) (sym new.columns.1))
