use Rattle.std.proofs.Common.{◌∙◌, ◌∷◌, [], ◌++◌, refl, ap, subst, append_assoc}
use Rattle.std.proofs.lemmas.Result.{IfErr-weaker, IfOk-weaker}
use Rattle.tesla_desk.specs.Outside.{with_bytes}
use Rattle.tesla_receiver.specs.History.{Ends}
use Rattle.tesla_run_replay.specs.Playing.{events_in}
use Rattle.tesla_run_replay.proofs.Takes.{end_alone, end_gathered, end_named, end_stops, prefix_halted}
use Rattle.tesla_run_replay.proofs.Wanting.{gathers_whole, wants_end, wants_ending}
use Rattle.tesla_run_replay.proofs.converter.ReplayConverterConverter.finish.Goals as goal

pub returns-in-Err-clause-halts : goal.returns-in-Err-clause-halts
returns-in-Err-clause-halts g c records had =
    end_alone _ _ _ refl c.play.ensures.rule (events_in records) c.waiting-waiting.result (c.waiting-waiting.ensures.value (events_in records) had.1) _ _ _
    (prefix_halted c.in-Err.halt _ _ _ (λ e. c.in-Err.ensures.halts e (events_in records) had.1) (λ e. (c.in-Err.ensures.wants e).2 (events_in records) had.1))

pub returns-clause-ended : goal.returns-clause-ended
returns-clause-ended g c =
    IfOk-weaker c.take_times.result _ _ (λ x after records had. (
      c.take_times.ensures.rule ∙ c.play.ensures.rule ∙ had.0,
      subst (g.T.Target.has c.take_times.new.target) (end_named _ _ _ had.0 c.play.ensures.rule (events_in records) c.waiting-waiting.result (c.waiting-waiting.ensures.value (events_in records) had.1))
          (after (events_in records ++ Ends 0 ∷ []) (c.in_default.ensures.has (events_in records) had.1)),
    )) c.take_times.ensures.has

pub returns-clause-writes : goal.returns-clause-writes
returns-clause-writes g c =
    IfOk-weaker c.take_times.result _ _ (λ x writes records had.
    end_gathered _ _ _ refl c.play.ensures.rule (events_in records) c.waiting-waiting.result (c.waiting-waiting.ensures.value (events_in records) had.1) _ _ _ _ _ _ (c.in_default.ensures.writes (events_in records) had.1)
    (writes (events_in records ++ Ends 0 ∷ []) (c.in_default.ensures.has (events_in records) had.1))) c.take_times.ensures.writes

pub returns-clause-halts : goal.returns-clause-halts
returns-clause-halts g c =
    IfErr-weaker c.take_times.result _ _ (λ x halts records had.
    end_stops _ _ _ refl c.play.ensures.rule (events_in records) c.waiting-waiting.result (c.waiting-waiting.ensures.value (events_in records) had.1) _ _ _ _ _ (c.in_default.ensures.writes (events_in records) had.1)
    (halts (events_in records ++ Ends 0 ∷ []) (c.in_default.ensures.has (events_in records) had.1))) c.take_times.ensures.halts

pub returns-in-Err-clause-wants : goal.returns-in-Err-clause-wants
returns-in-Err-clause-wants g c e =
    let wants = c.in-Err.ensures.wants e in (
      wants.0,
      wants.1,
      λ records had. (
        _,
        wants_end _ _ _ had.0 c.play.ensures.rule (events_in records) c.waiting-waiting.result (c.waiting-waiting.ensures.value (events_in records) had.1) (wants.3 (events_in records) had.1),
        wants.2 (events_in records) had.1,
      ),
    )

pub returns-clause-wants : goal.returns-clause-wants
returns-clause-wants g c e =
    let wants = c.take_times.ensures.wants e in (
      wants.0,
      wants.1,
      λ records had.
          let it = wants.2 (events_in records ++ Ends 0 ∷ []) (c.in_default.ensures.has (events_in records) had.1) in (
            _,
            wants_ending _ _ _ had.0 c.play.ensures.rule (events_in records) c.waiting-waiting.result (c.waiting-waiting.ensures.value (events_in records) had.1) it.0 it.1,
            gathers_whole _ _ _ _ _ it.0 (c.in_default.ensures.writes (events_in records) had.1) it.2 ∙ ap (with_bytes _) (append_assoc _ _ it.0),
          ),
    )
