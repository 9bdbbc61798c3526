use Rattle.std.proofs.Common.{◌≡◌, ◌∙◌, ℕ, replicate, subst, arith}
use Rattle.tesla_receiver.specs.History.{Takes}
use Rattle.tesla_receiver.specs.Events.{after_events}
use Rattle.tesla_receiver.specs.Stands.{Stands}
use Rattle.tesla_run_stress.proofs.Histories.{take_more}
use Rattle.tesla_run_stress.proofs.player.take_times.Goals as goal

pub loop-preserved : goal.loop-preserved
loop-preserved c = record {
  config = c.take.ensures.config ∙ c.loop.invariant.config;
  calls = omega arith;
  stands = λ h was. take_more _ h c.loop.counter _ _ c.loop.invariant.config (c.loop.invariant.stands h was) c.take.ensures.stands;
}

pub returns : goal.returns
returns c =
    let same : c.loop.counter ≡ c.args.times = omega arith in
    record { stands = λ h was. subst (λ (n : ℕ). Stands c.loop.receiver (after_events c.args.receiver.now.config h (replicate n (Takes 0)))) same (c.loop.invariant.stands h was) }
