use Rattle.std.proofs.Common.{◌∙◌, ◌++◌, subst, arith, replicate}
use Rattle.tesla_receiver.specs.History.{Takes}
use Rattle.tesla_run_replay.proofs.Takes.{prefix_halted, take_gathered, take_more, take_stops}
use Rattle.tesla_run_replay.proofs.Wanting.{wants_taken}
use Rattle.tesla_run_replay.proofs.converter.take_times.Goals as goal

pub returns-in-Err-clause-halts : goal.returns-in-Err-clause-halts
returns-in-Err-clause-halts g c es had =
    take_stops _ _ c.loop.invariant.rule es c.args.times c.loop.counter _ _ _ _ _ (omega arith) (c.loop.invariant.gathers es had)
    (prefix_halted c.in-Err.halt _ _ _ (λ e. c.in-Err.ensures.halts e (es ++ replicate c.loop.counter (Takes 0)) (c.loop.invariant.has es had))
    (λ e. (c.in-Err.ensures.wants e).2 (es ++ replicate c.loop.counter (Takes 0)) (c.loop.invariant.has es had)))

pub loop-preserved : goal.loop-preserved
loop-preserved g c = record {
  calls = omega arith;
  rule = c.play.ensures.rule ∙ c.loop.invariant.rule;
  faults = c.play.ensures.cause.still (λ e. absurd cc) ∙ c.loop.invariant.faults;
  name = c.play.ensures.name ∙ c.loop.invariant.name;
  has = λ es had.
      subst (g.T.Target.has c.play.new.self) (take_more es c.loop.counter) (c.in_default.ensures.has (es ++ replicate c.loop.counter (Takes 0)) (c.loop.invariant.has es had));
  gathers = λ es had.
      take_gathered _ _ c.loop.invariant.rule es c.loop.counter _ _ _ _ _ _ (c.loop.invariant.gathers es had)
      (c.in_default.ensures.writes (es ++ replicate c.loop.counter (Takes 0)) (c.loop.invariant.has es had));
}

pub returns-in-Err-clause-wants : goal.returns-in-Err-clause-wants
returns-in-Err-clause-wants g c e =
    let wants = c.in-Err.ensures.wants e in (
      wants.0,
      wants.1,
      λ es had. wants_taken _ _ c.loop.invariant.rule es c.args.times c.loop.counter _ _ _ _ _ (omega arith) (c.loop.invariant.gathers es had)
          (wants.2 (es ++ replicate c.loop.counter (Takes 0)) (c.loop.invariant.has es had)) (wants.3 (es ++ replicate c.loop.counter (Takes 0)) (c.loop.invariant.has es had)),
    )
