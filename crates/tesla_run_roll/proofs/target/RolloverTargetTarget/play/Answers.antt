use Rattle.std.proofs.Common.{List, [], ◌∷◌, ℕ, Bool, ◌++◌, ◌∙◌, refl, ap, subst, sym}
use Rattle.std.proofs.lemmas.Result.{IfOk-weaker}
use Rattle.tesla_capture.specs.Gathering.{gathered, Gathers}
use Rattle.tesla_desk.specs.Outside.{AppendsPrefix, with_bytes}
use Rattle.tesla_run_replay.specs.Playing.{event_of}
use Rattle.tesla_run_replay.proofs.Takes.{gathers_none}
use Rattle.tesla_receiver.specs.History.{Takes}
use Rattle.tesla_rollover.specs.Epochs.{roll_entry_of}
use Rattle.tesla_rollover.specs.Events.{roll_after_events}
use Rattle.tesla_rollover.specs.Replies.{has_memory}
use Rattle.tesla_rollover.specs.Stands.{RollStands}
use Rattle.tesla_run_roll.specs.Roll.{roll_rule}
use Rattle.tesla_run_roll.proofs.Events.{stands_on}
use Rattle.tesla_run_roll.proofs.Texts.{memory_none, text_none, text_given}
use Rattle.tesla_run_roll.proofs.Wanting.{take_answered}
use Rattle.tesla_run_roll.proofs.target.RolloverTargetTarget.play.Goals as goal

pub returns-in-Arrival-clause-rule : goal.returns-in-Arrival-clause-rule
returns-in-Arrival-clause-rule g c = ap roll_rule c.arrive.ensures.config

pub returns-in-Given-clause-rule : goal.returns-in-Given-clause-rule
returns-in-Given-clause-rule g c = ap roll_rule c.take.ensures.config

pub returns-in-Empty-clause-rule : goal.returns-in-Empty-clause-rule
returns-in-Empty-clause-rule g c = ap roll_rule c.take.ensures.config

pub returns-in-End-clause-rule : goal.returns-in-End-clause-rule
returns-in-End-clause-rule g c = ap roll_rule c.end.ensures.config

pub returns-in-Arrival-clause-has : goal.returns-in-Arrival-clause-has
returns-in-Arrival-clause-has g c es stands = stands_on _ _ es _ _ _ c.arrive.ensures.config (ap event_of c.in-Arrival.is) (c.arrive.ensures.stands _ stands)

pub returns-in-End-clause-has : goal.returns-in-End-clause-has
returns-in-End-clause-has g c es stands = stands_on _ _ es _ _ _ c.end.ensures.config (ap event_of c.in-End.is) (c.end.ensures.stands _ stands)

pub returns-in-Given-clause-has : goal.returns-in-Given-clause-has
returns-in-Given-clause-has g c =
    IfOk-weaker c.put_given.result _ _
    (λ x enough es stands. let cfg = c.args.self.now.rollover.config in let h = roll_after_events cfg [] es in
    stands_on _ _ es _ _ _ c.take.ensures.config (ap event_of c.in-Take.is)
    (subst (λ (b : Bool). RollStands c.take.new.self (h ++ roll_entry_of cfg h b (Takes 0) ∷ [])) (ap has_memory c.in-Given.is ∙ enough) (c.take.ensures.stands h stands))) c.put_given.ensures.enough

pub returns-in-Given-clause-writes : goal.returns-in-Given-clause-writes
returns-in-Given-clause-writes g c =
    IfOk-weaker c.put_given.result _ _
    (λ x gathers es stands. let cfg = c.args.self.now.rollover.config in let h = roll_after_events cfg [] es in
    subst (λ (t : List ℕ). Gathers (g.O.Sink.written c.args.out.now) (g.O.Sink.written c.put_given.new.out) (gathered c.put_given.new.gatherer) (gathered c.args.gatherer.now ++ t))
    (text_given cfg h _ (ap event_of c.in-Take.is) c.take.result c.take.new.into (c.take.ensures.answer h stands) c.in-Given.epoch c.in-Given.head c.in-Given.next c.in-Given.is) gathers) c.put_given.ensures.writes

pub returns-in-Given-clause-halts : goal.returns-in-Given-clause-halts
returns-in-Given-clause-halts g c failed es stands =
    let cfg = c.args.self.now.rollover.config in let h = roll_after_events cfg [] es in
    subst (λ (t : List ℕ). AppendsPrefix (g.O.Sink.written c.args.out.now) (g.O.Sink.written c.put_given.new.out) (gathered c.args.gatherer.now ++ t))
    (text_given cfg h _ (ap event_of c.in-Take.is) c.take.result c.take.new.into (c.take.ensures.answer h stands) c.in-Given.epoch c.in-Given.head c.in-Given.next c.in-Given.is) (c.put_given.ensures.halts failed)

pub returns-in-Given-clause-wants : goal.returns-in-Given-clause-wants
returns-in-Given-clause-wants g c wanting =
    let it = c.put_given.ensures.wants wanting in (
      refl,
      it.1,
      λ es stands. let cfg = c.args.self.now.rollover.config in let h = roll_after_events cfg [] es in
          it.2 ∙ ap (λ (t : List ℕ). with_bytes (g.O.Sink.written c.args.out.now) (gathered c.args.gatherer.now ++ t)) (text_given cfg h _ (ap event_of c.in-Take.is) c.take.result c.take.new.into (c.take.ensures.answer h stands) c.in-Given.epoch c.in-Given.head c.in-Given.next c.in-Given.is),
      λ es stands. let cfg = c.args.self.now.rollover.config in let h = roll_after_events cfg [] es in
          take_answered cfg h _ (ap event_of c.in-Take.is) c.take.result c.take.new.into c.in-Given.epoch c.in-Given.head c.in-Given.next c.in-Given.is it.0 (c.take.ensures.answer h stands),
    )

pub returns-in-Empty-clause-has : goal.returns-in-Empty-clause-has
returns-in-Empty-clause-has g c es stands =
    let cfg = c.args.self.now.rollover.config in let h = roll_after_events cfg [] es in
    stands_on _ _ es _ _ _ c.take.ensures.config (ap event_of c.in-Take.is)
    (subst (λ (b : Bool). RollStands c.take.new.self (h ++ roll_entry_of cfg h b (Takes 0) ∷ [])) (memory_none c.take.result c.in-Empty.is) (c.take.ensures.stands h stands))

pub returns-in-Empty-clause-writes : goal.returns-in-Empty-clause-writes
returns-in-Empty-clause-writes g c es stands =
    let cfg = c.args.self.now.rollover.config in let h = roll_after_events cfg [] es in
    subst (λ (t : List ℕ). Gathers (g.O.Sink.written c.args.out.now) (g.O.Sink.written c.args.out.now) (gathered c.args.gatherer.now) (gathered c.args.gatherer.now ++ t))
    (sym (text_none cfg h _ (ap event_of c.in-Take.is) c.take.result c.take.new.into (c.take.ensures.answer h stands) c.in-Empty.is)) (gathers_none _ _)
