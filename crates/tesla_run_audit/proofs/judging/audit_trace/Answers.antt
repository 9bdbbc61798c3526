use Rattle.std.proofs.Common.{◌≡◌, ◌∙◌, true, false, sym, subst}
use Rattle.tesla_front.specs.OutcomeView.{OutcomeView, result_view}
use Rattle.tesla_records.specs.Steps.{goes_on}
use Rattle.tesla_state.specs.Steps.{with_ingests}
use Rattle.tesla_audit.specs.Steps.{records_step}
use Rattle.tesla_run_audit.specs.Audit.{IsAuditOutcome}
use Rattle.tesla_run_audit.proofs.Steps.{first_at, first_stops, moves_head, possible_stop, reads_head}
use Rattle.tesla_run_audit.proofs.judging.audit_trace.Goals as goal

pub returns-then-going-clause-audits : goal.returns-then-going-clause-audits
returns-then-going-clause-audits g c =
    let cfg = with_ingests c.args.receiver.config in
    let going : goes_on (records_step c.next-step.result) ≡ true = sym c.next-step.ensures.goes ∙ sym c.going.ensures ∙ c.if-going.true in (
      c.judge_from.ensures.possible,
      λ bytes told. c.judge_from.ensures.audits cfg bytes
          (first_at cfg bytes c.new-reader.result c.next-step.new.self (g.S.Source.left c.args.source.now) (g.S.Source.left c.next-step.new.source) c.next-step.result c.next-step.new.entry c.new-reader.ensures.pending c.new-reader.ensures.place c.new-reader.ensures.head told
          c.next-step.ensures.gives (moves_head _ _ _ _ c.next-step.ensures.heads) (λ rest told. reads_head _ _ _ _ (c.next-step.ensures.head rest told)) c.limit_ingests.new.self c.ingests.result going c.next-step.ensures.moves c.ingests.ensures c.limit_ingests.ensures.config c.limit_ingests.ensures.stands),
    )

pub returns-else-going-clause-audits : goal.returns-else-going-clause-audits
returns-else-going-clause-audits g c =
    let cfg = with_ingests c.args.receiver.config in
    let none : goes_on (records_step c.next-step.result) ≡ false = sym c.next-step.ensures.goes ∙ sym c.going.ensures ∙ c.if-going.false in (
      subst (λ (outcome : OutcomeView). IsAuditOutcome outcome) (sym c.stop.ensures) (possible_stop c.next-step.result 0 none),
      λ bytes told. first_stops cfg bytes c.new-reader.result c.next-step.new.self (g.S.Source.left c.args.source.now) (g.S.Source.left c.next-step.new.source) c.next-step.result c.next-step.new.entry c.new-reader.ensures.pending c.new-reader.ensures.place c.new-reader.ensures.head told
          c.next-step.ensures.gives (moves_head _ _ _ _ c.next-step.ensures.heads) (λ rest told. reads_head _ _ _ _ (c.next-step.ensures.head rest told)) (result_view c.stop.result) none c.stop.ensures c.next-step.ensures.cut,
    )
