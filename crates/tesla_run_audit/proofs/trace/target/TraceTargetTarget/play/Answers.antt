use Rattle.std.proofs.Common.{[], ap}
use Rattle.std.proofs.lemmas.Result.{IfOk-weaker}
use Rattle.tesla_desk.proofs.Told.{prefix_longer}
use Rattle.tesla_run_replay.specs.Playing.{event_of}
use Rattle.tesla_run_replay.proofs.Targets.{stands_on}
use Rattle.tesla_run_audit.specs.trace.Trace.{trace_rule}
use Rattle.tesla_run_audit.proofs.trace.target.TraceTargetTarget.play.Goals as goal

pub returns-in-Arrival-clause-rule : goal.returns-in-Arrival-clause-rule
returns-in-Arrival-clause-rule g c = ap trace_rule c.arrive-verdict.ensures.config

pub returns-in-Arrival-clause-has : goal.returns-in-Arrival-clause-has
returns-in-Arrival-clause-has g c =
    IfOk-weaker c.put_or_fault.result _ _
    (λ x put es stands. stands_on _ _ es _ _ _ c.arrive-verdict.ensures.config (ap event_of c.in-Arrival.is) (c.events.ensures.one _ [] es _) (c.arrive-verdict.ensures.stands _ stands)) c.put_or_fault.ensures.put

pub returns-in-Arrival-clause-halts : goal.returns-in-Arrival-clause-halts
returns-in-Arrival-clause-halts g c failed es stands = prefix_longer _ _ _ _ (c.put_arrived.ensures.prefix (c.put_or_fault.ensures.fault failed))

pub returns-in-Take-clause-rule : goal.returns-in-Take-clause-rule
returns-in-Take-clause-rule g c = ap trace_rule c.take-reply.ensures.config

pub returns-in-Take-clause-has : goal.returns-in-Take-clause-has
returns-in-Take-clause-has g c =
    IfOk-weaker c.put_or_fault-in-Take.result _ _
    (λ x put es stands. stands_on _ _ es _ _ _ c.take-reply.ensures.config (ap event_of c.in-Take.is) (c.events.ensures.one _ [] es _) (c.take-reply.ensures.stands _ stands)) c.put_or_fault-in-Take.ensures.put

pub returns-in-Take-clause-halts : goal.returns-in-Take-clause-halts
returns-in-Take-clause-halts g c failed es stands = prefix_longer _ _ _ _ (c.put_taken.ensures.prefix (c.put_or_fault-in-Take.ensures.fault failed))

pub returns-in-End-clause-rule : goal.returns-in-End-clause-rule
returns-in-End-clause-rule g c = ap trace_rule c.end.ensures.config

pub returns-in-End-clause-has : goal.returns-in-End-clause-has
returns-in-End-clause-has g c =
    IfOk-weaker c.put_or_fault-in-End.result _ _
    (λ x put es stands. stands_on _ _ es _ _ _ c.end.ensures.config (ap event_of c.in-End.is) (c.events.ensures.one _ [] es _) (c.end.ensures.stands _ stands)) c.put_or_fault-in-End.ensures.put

pub returns-in-End-clause-halts : goal.returns-in-End-clause-halts
returns-in-End-clause-halts g c failed es stands = prefix_longer _ _ _ _ (c.put_ended.ensures.prefix (c.put_or_fault-in-End.ensures.fault failed))
