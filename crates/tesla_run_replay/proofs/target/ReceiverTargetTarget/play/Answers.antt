use Rattle.std.proofs.Common.{[], ap}
use Rattle.std.proofs.lemmas.Result.{IfOk-weaker}
use Rattle.tesla_desk.proofs.Told.{prefix_longer}
use Rattle.tesla_run_replay.specs.Playing.{event_of, rule_of}
use Rattle.tesla_run_replay.proofs.Targets.{stands_on}
use Rattle.tesla_run_replay.proofs.target.ReceiverTargetTarget.play.Goals as goal

pub returns-in-Arrival-clause-rule : goal.returns-in-Arrival-clause-rule
returns-in-Arrival-clause-rule g c = ap rule_of c.arrive.ensures.config

pub returns-in-Given-clause-rule : goal.returns-in-Given-clause-rule
returns-in-Given-clause-rule g c = ap rule_of c.take.ensures.config

pub returns-in-Empty-clause-rule : goal.returns-in-Empty-clause-rule
returns-in-Empty-clause-rule g c = ap rule_of c.take.ensures.config

pub returns-in-End-clause-rule : goal.returns-in-End-clause-rule
returns-in-End-clause-rule g c = ap rule_of c.end.ensures.config

pub returns-in-Arrival-clause-has : goal.returns-in-Arrival-clause-has
returns-in-Arrival-clause-has g c es stands =
    stands_on _ _ es _ _ _ c.arrive.ensures.config (ap event_of c.in-Arrival.is) (c.events.ensures.one _ [] es _) (c.arrive.ensures.stands _ stands)

pub returns-in-Given-clause-has : goal.returns-in-Given-clause-has
returns-in-Given-clause-has g c =
    IfOk-weaker c.put_or_fault.result _ _
    (λ x put es stands. stands_on _ _ es _ _ _ c.take.ensures.config (ap event_of c.in-Take.is) (c.events.ensures.one _ [] es _) (c.take.ensures.stands _ stands)) c.put_or_fault.ensures.put

pub returns-in-Given-clause-halts : goal.returns-in-Given-clause-halts
returns-in-Given-clause-halts g c failed es stands = prefix_longer _ _ _ _ (c.put.ensures.prefix (c.put_or_fault.ensures.fault failed))

pub returns-in-Empty-clause-has : goal.returns-in-Empty-clause-has
returns-in-Empty-clause-has g c es stands =
    stands_on _ _ es _ _ _ c.take.ensures.config (ap event_of c.in-Take.is) (c.events.ensures.one _ [] es _) (c.take.ensures.stands _ stands)

pub returns-in-End-clause-has : goal.returns-in-End-clause-has
returns-in-End-clause-has g c es stands =
    stands_on _ _ es _ _ _ c.end.ensures.config (ap event_of c.in-End.is) (c.events.ensures.one _ [] es _) (c.end.ensures.stands _ stands)
