use Rattle.std.proofs.Common.{arith, ◌∙◌}
use Rattle.tesla_desk.proofs.Told.{appends_more}
use Rattle.tesla_desk.proofs.sink.write_all.Goals as goal

pub loop-done-preserved : goal.loop-done-preserved
loop-done-preserved g c = record {
  fits = omega (arith, c.in-Took.ensures.step.fits);
  written = appends_more _ _ _ _ _ _ c.loop-done.invariant.written c.in-Took.ensures.step.written;
  faults = c.in-Took.ensures.cause.still (λ stalls. c.if-count-eq0.false stalls.0) ∙ c.loop-done.invariant.faults;
  name = c.write.ensures.name ∙ c.loop-done.invariant.name;
}
