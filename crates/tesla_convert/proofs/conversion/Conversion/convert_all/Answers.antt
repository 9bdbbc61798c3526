use Rattle.std.proofs.Common.{[], refl, sym, subst}
use Rattle.tesla_capture.specs.Gathering.{gathered}
use Rattle.tesla_convert.specs.Rule.{Rule}
use Rattle.tesla_convert.specs.Held.{HoldsText}
use Rattle.tesla_convert.proofs.Made.{all_same, all_unbegun, begun}
use Rattle.tesla_convert.proofs.Wanting.{wanting_same}
use Rattle.tesla_convert.proofs.conversion.Conversion.convert_all.Goals as goal

pub returns-then-not-begin-clause-converts : goal.returns-then-not-begin-clause-converts
returns-then-not-begin-clause-converts g c bytes told has holds =
    all_unbegun g.C.Converter.grammar _ (g.C.Converter.rule c.args.self.now.converter) (g.C.Converter.ended c.begin.new.self) bytes (g.S.Source.left c.args.source.now) _ (g.O.Sink.written c.begin.new.out) _ (gathered c.begin.new.gatherer) holds (c.if-not-begin.ensures.halts refl)

pub returns-clause-converts : goal.returns-clause-converts
returns-clause-converts g c bytes told has holds =
    all_same g.C.Converter.grammar _ (g.C.Converter.rule c.begin.new.self) (g.C.Converter.rule c.args.self.now.converter) (g.C.Converter.ended c.convert_to_end.new.self.converter) c.convert_to_end.result bytes (g.S.Source.left c.convert_to_end.new.source) (g.O.Sink.written c.convert_to_end.new.out) (gathered c.convert_to_end.new.self.gatherer) c.begin.ensures.rule
    (c.convert_to_end.ensures.converts bytes told (c.begin.ensures.has [] has)
    (subst (λ (r : Rule g.C.Converter.grammar g.row.C-Kind.Denot). HoldsText (g.O.Sink.written c.begin.new.out) (gathered c.begin.new.gatherer) r.begins) (sym c.begin.ensures.rule) (begun g.C.Converter.grammar _ (g.C.Converter.rule c.args.self.now.converter) (g.O.Sink.written c.args.out.now) (g.O.Sink.written c.begin.new.out) (gathered c.args.self.now.gatherer) (gathered c.begin.new.gatherer) holds (c.if-not-begin.ensures.writes refl))))

pub returns-clause-wants : goal.returns-clause-wants
returns-clause-wants g c memory =
    let wants = c.convert_to_end.ensures.wants memory in (
      wants.0,
      λ bytes told has holds.
          wanting_same g.C.Converter.grammar _ g.C.Converter.wants (g.C.Converter.rule c.begin.new.self) (g.C.Converter.rule c.args.self.now.converter) bytes (g.O.Sink.written c.convert_to_end.new.out) c.begin.ensures.rule
          (wants.1 bytes told (c.begin.ensures.has [] has)
          (subst (λ (r : Rule g.C.Converter.grammar g.row.C-Kind.Denot). HoldsText (g.O.Sink.written c.begin.new.out) (gathered c.begin.new.gatherer) r.begins) (sym c.begin.ensures.rule) (begun g.C.Converter.grammar _ (g.C.Converter.rule c.args.self.now.converter) (g.O.Sink.written c.args.out.now) (g.O.Sink.written c.begin.new.out) (gathered c.args.self.now.gatherer) (gathered c.begin.new.gatherer) holds (c.if-not-begin.ensures.writes refl)))),
    )
