use Rattle.std.proofs.Common.{◌∙◌, Option, Ok, List, ℕ, [], arith, refl, sym, ap}
use Rattle.tesla_desk.specs.Outside.{after_bytes}
use Rattle.tesla_convert.specs.declared.conversion.Ending.{Ending}
use Rattle.tesla_convert.specs.declared.conversion.Stopped.TheVariants as stops
use Rattle.tesla_convert.proofs.Made.{at_same, at_start, breaks, ends, goes_on}
use Rattle.tesla_convert.proofs.Wanting.{stopped_so, wanting_same}
use Rattle.tesla_convert.proofs.conversion.Conversion.convert_records.Goals as goal

pub loop-ending-init : goal.loop-ending-init
loop-ending-init g c = record {
  calls = omega (arith, c.requires.calls);
  limited = omega (arith, c.new-reader.ensures.place);
  going = c.new-reader.ensures.going;
  rule = refl;
  reads = refl;
  writes = refl;
  input = refl;
  output = refl;
  at = λ bytes told has holds.
      at_start g.C.Converter.grammar g.met.C.Converter.is _ _ _ bytes _ _ _ _ c.new-reader.ensures.place (ap (λ (p : List ℕ). after_bytes p (g.S.Source.left c.args.source.now)) c.new-reader.ensures.pending ∙ ap (after_bytes []) told) has holds;
}

pub loop-ending-preserved : goal.loop-ending-preserved
loop-ending-preserved g c =
    let up = c.in-Ok-None.ensures.rises (ap (λ (n : Option (Ending g.row.C-Kind.Denot)). Ok n) c.in-Ok-None.field-0-is) in
    record {
      calls = omega (arith, c.loop-ending.invariant.calls, c.step.ensures.calls, up.rises);
      limited = up.limited;
      going = up.going;
      rule = c.step.ensures.rule ∙ c.loop-ending.invariant.rule;
      reads = c.in-Ok-None.ensures.reads.still (λ e. absurd cc) ∙ c.loop-ending.invariant.reads;
      writes = c.in-Ok-None.ensures.writes.still (λ e. absurd cc) ∙ c.loop-ending.invariant.writes;
      input = c.step.ensures.input ∙ c.loop-ending.invariant.input;
      output = c.step.ensures.output ∙ c.loop-ending.invariant.output;
      at = λ bytes told has holds.
          goes_on g.C.Converter.grammar _ _ _ _ c.in-Ok-None.field-0 bytes _ _ (g.S.Source.left c.step.new.source) _ _ c.in-Ok-None.field-0-is c.loop-ending.invariant.rule
          (c.in-Ok-None.ensures.steps bytes (at_same g.C.Converter.grammar _ _ _ _ bytes _ _ _ _ (sym c.loop-ending.invariant.rule) (c.loop-ending.invariant.at bytes told has holds)));
    }

pub returns-in-Ok-Some-clause-converts : goal.returns-in-Ok-Some-clause-converts
returns-in-Ok-Some-clause-converts g c bytes told has holds =
    ends g.C.Converter.grammar _ _ _ _ c.in-Ok-Some.field-0 c.in-Ok-Some.ending bytes _ _ (g.S.Source.left c.step.new.source) _ _ c.in-Ok-Some.field-0-is c.loop-ending.invariant.rule
    (c.in-Ok-Some.ensures.steps bytes (at_same g.C.Converter.grammar _ _ _ _ bytes _ _ _ _ (sym c.loop-ending.invariant.rule) (c.loop-ending.invariant.at bytes told has holds)))

pub returns-in-Err-clause-converts : goal.returns-in-Err-clause-converts
returns-in-Err-clause-converts g c bytes told has holds =
    breaks g.C.Converter.grammar _ _ _ (g.C.Converter.has c.step.new.self.converter) c.in-Err.stopped bytes _ _ (g.S.Source.left c.step.new.source) _ _ c.loop-ending.invariant.rule
    (c.in-Err.ensures.steps bytes (at_same g.C.Converter.grammar _ _ _ _ bytes _ _ _ _ (sym c.loop-ending.invariant.rule) (c.loop-ending.invariant.at bytes told has holds)))

pub returns-in-Err-clause-wants : goal.returns-in-Err-clause-wants
returns-in-Err-clause-wants g c memory =
    let wants = c.in-Err.ensures.wants (stopped_so c.in-Err.stopped stops.Memory memory) in (
      wants.0,
      λ bytes told has holds.
          wanting_same g.C.Converter.grammar _ g.C.Converter.wants _ _ bytes _ c.loop-ending.invariant.rule
          (wants.1 bytes (at_same g.C.Converter.grammar _ _ _ _ bytes _ _ _ _ (sym c.loop-ending.invariant.rule) (c.loop-ending.invariant.at bytes told has holds))),
    )
