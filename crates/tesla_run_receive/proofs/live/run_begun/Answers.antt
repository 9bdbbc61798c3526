use Rattle.std.proofs.Common.{◌≡◌, ◌∙◌, ◌||◌, Some, sym, ap, subst}
use Rattle.std.specs.List.{list_any}
use Rattle.std.specs.Option.{option_map}
use Rattle.tesla_front.specs.OutcomeView.{stop_view}
use Rattle.tesla_session.specs.Session.{has_spent, link_failed, outcome_by, sink_failed, stop_by, workers_of}
use Rattle.tesla_session.proofs.Sessions.{opened_same}
use Rattle.tesla_turn.specs.History.{entries}
use Rattle.tesla_run_receive.specs.Running.{EndsBehind}
use Rattle.tesla_run_receive.proofs.live.run_begun.Goals as goal

pub end_run-requires-clause-begun : goal.end_run-requires-clause-begun
end_run-requires-clause-begun g c κs within =
    let session = c.args.session in
    let ran = c.run_opened-ran in
    let (wanted, cfg, before, now, extra, opens, begun) = c.requires.opened in
    let first = opened_same wanted cfg before now session.turn session.first (workers_of session.links.items session.sinks.items) opens in
    let configured : Some cfg ≡ Some (g.V.Chronicle.config ran.result.station) = sym first.config ∙ ran.ensures.config in
    let same : cfg ≡ g.V.Chronicle.config ran.result.station = cc in
    (extra, subst (λ own. g.E.Extra.is_begun extra own ran.new.beside) same (g.met.E.Extra.still extra cfg _ _ ran.ensures.beside begun))

pub returns : goal.returns
returns g c cfg extra first begun =
    let ran = c.run_opened-ran in
    let runs = ran.ensures.runs in
    let history = entries ran.result.last.history in
    let configured : Some cfg ≡ Some (g.V.Chronicle.config ran.result.station) = sym first ∙ ran.ensures.config in
    let same : cfg ≡ g.V.Chronicle.config ran.result.station = cc in
    let end = c.end_run.ensures in
    let (failed, ends, outcome) = end.ends extra (subst (λ own. g.E.Extra.is_begun extra own ran.new.beside) same (g.met.E.Extra.still extra cfg _ _ ran.ensures.beside begun)) in record {
      closed = g.D.Environment.told ran.new.desk;
      end = ran.result.last;
      stop = option_map stop_view ran.result.stop;
      ran = runs;
      failed = failed;
      ends = subst (λ own. EndsBehind (g.E.Extra.holds extra own history) (g.E.Extra.output extra) (g.D.Environment.told ran.new.desk) (g.D.Environment.told c.end_run.new.desk) failed) (sym same) ends;
      last_is = end.last;
      legal = subst (λ own. g.V.Station.is_legal own history) (sym same) end.legal;
      outcome_is = outcome (list_any link_failed runs.done) (list_any sink_failed runs.done) (list_any has_spent runs.done) runs.stop_is ∙ ap (λ own. outcome_by (stop_by (list_any link_failed runs.done) (list_any sink_failed runs.done || failed) (list_any has_spent runs.done)) (g.E.Extra.text own history)) (sym same);
    }
