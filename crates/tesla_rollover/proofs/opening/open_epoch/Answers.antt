use Rattle.std.proofs.Common.{◌≡◌, ◌+◌, ◌<◌, ◌∙◌, arith, sym, subst, ℕ}
use Rattle.tesla_state.specs.State.{State}
use Rattle.tesla_rollover.proofs.Opened.{IsOpening, StandsEnded, end_made, no_end_made}
use Rattle.tesla_rollover.proofs.opening.open_epoch.Goals.{then-has_ended, else-has_ended}
use Rattle.tesla_rollover.proofs.opening.open_epoch.Goals as goal

pub loop-ingest-preserved : goal.loop-ingest-preserved
loop-ingest-preserved c =
    let first = c.args.first.now in let at = c.loop-ingest.ingest in let so_far = c.loop-ingest.invariant in
    let below : at < first.config.ingests = omega (arith, c.requires.same, c.loop-ingest-test.true) in
    elim c.if-has_ended.branch [
      | then-has_ended w ↦ subst (λ (state : State). IsOpening c.args.config.now first c.args.setup (at + 1) state) (sym w.receiver-is)
          (record {
            config = w.end.ensures.config ∙ so_far.config;
            stands = end_made first c.loop-ingest.receiver w.end.new.self at c.has_ended.result c.has_ended.ensures w.if-has_ended.true so_far.stands w.end.ensures.stands;
            few = omega (arith, w.end.ensures.calls, so_far.few);
          })
      | else-has_ended w ↦ subst (λ (state : State). IsOpening c.args.config.now first c.args.setup (at + 1) state) (sym w.receiver-is)
          (record {
            config = so_far.config;
            stands = no_end_made first c.loop-ingest.receiver at c.has_ended.result below c.has_ended.ensures w.if-has_ended.false so_far.stands;
            few = omega (arith, so_far.few);
          })
    ]

pub returns : goal.returns
returns c =
    let first = c.args.first.now in let so_far = c.loop-ingest.invariant in
    let all : c.loop-ingest.ingest ≡ c.args.config.now.ingests = omega (arith, c.loop-ingest-test.false) in
    record {
      config = so_far.config;
      stands = subst (λ (n : ℕ). StandsEnded first c.loop-ingest.receiver n) all so_far.stands;
      few = omega (arith, so_far.few, all);
    }
