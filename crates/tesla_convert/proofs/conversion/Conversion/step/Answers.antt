use Rattle.std.proofs.Common.{◌∙◌, ap, take, refl}
use Rattle.tesla_capture.specs.Gathering.{gathered}
use Rattle.tesla_capture.specs.Records.{record_offset}
use Rattle.tesla_convert.proofs.Made.{at_end, at_fault, at_next, at_refused}
use Rattle.tesla_convert.proofs.Wanting.{wanted_at, wanting_next}
use Rattle.tesla_convert.proofs.conversion.Conversion.step.Goals as goal

pub returns-in-Carrying-clause-steps : goal.returns-in-Carrying-clause-steps
returns-in-Carrying-clause-steps g c bytes at =
    at_next g.C.Converter.grammar g.met.C.Converter.is _ _ _ _ bytes _ _ c.offset_of-place.result _ _ _ _ _ _ _ (g.C.Converter.grammar.carrying c.in-Carrying.reading (take c.in-Carrying.length c.next.new.room)) c.convert_carrying.result c.ending_at.result at (c.in-Carrying.ensures.gives at.rest at.ahead_is) c.convert_carrying.ensures.answers (c.offset_of-place.ensures ∙ ap record_offset c.place.ensures.value) c.ending_at.ensures

pub returns-in-Bare-clause-steps : goal.returns-in-Bare-clause-steps
returns-in-Bare-clause-steps g c bytes at =
    at_next g.C.Converter.grammar g.met.C.Converter.is _ _ _ _ bytes _ _ c.offset_of-place.result _ _ _ _ _ _ _ (g.C.Converter.grammar.bare c.in-Bare.reading) c.convert_bare.result c.ending_at-in-Bare.result at (c.in-Bare.ensures.gives at.rest at.ahead_is) c.convert_bare.ensures.answers (c.offset_of-place.ensures ∙ ap record_offset c.place.ensures.value) c.ending_at-in-Bare.ensures

pub returns-in-End-clause-steps : goal.returns-in-End-clause-steps
returns-in-End-clause-steps g c bytes at =
    at_end g.C.Converter.grammar g.met.C.Converter.is _ _ _ bytes _ _ _ _ at (c.in-End.ensures.gives at.rest at.ahead_is).0

pub returns-in-Refused-clause-steps : goal.returns-in-Refused-clause-steps
returns-in-Refused-clause-steps g c bytes at =
    at_refused g.C.Converter.grammar g.met.C.Converter.is _ _ _ bytes _ _ _ _ c.in-Refused.place c.in-Refused.kind c.kind_of-kind.result at (c.in-Refused.ensures.gives at.rest at.ahead_is).0 c.kind_of-kind.ensures

pub returns-in-ReadFault-clause-steps : goal.returns-in-ReadFault-clause-steps
returns-in-ReadFault-clause-steps g c bytes at =
    at_fault g.C.Converter.grammar g.met.C.Converter.is _ _ _ bytes _ c.next.new.reader.place _ _ c.next.new.reader.pending _ (g.S.Source.left c.next.new.source) at (c.in-ReadFault.ensures.gives at.rest at.ahead_is) (c.in-ReadFault.ensures.cut refl)

pub returns-in-Carrying-clause-wants : goal.returns-in-Carrying-clause-wants
returns-in-Carrying-clause-wants g c memory =
    let wanting = wanted_at c.offset_of-place.result c.convert_carrying.result c.ending_at.result c.ending_at.ensures memory in
    let first = g.C.Converter.grammar.carrying c.in-Carrying.reading (take c.in-Carrying.length c.next.new.room) in
    let wants = c.convert_carrying.ensures.wants wanting in (
      wants.0,
      λ bytes at. wanting_next g.C.Converter.grammar _ g.C.Converter.wants g.met.C.Converter.is _ _ (g.C.Converter.has c.convert_carrying.new.self.converter) bytes _ _ _ _ _ _ _ (gathered c.convert_carrying.new.self.gatherer) first c.convert_carrying.result at (c.in-Carrying.ensures.gives at.rest at.ahead_is) (c.convert_carrying.ensures.answers at.records at.has) wanting (wants.1 at.records at.has),
    )

pub returns-in-Bare-clause-wants : goal.returns-in-Bare-clause-wants
returns-in-Bare-clause-wants g c memory =
    let wanting = wanted_at c.offset_of-place.result c.convert_bare.result c.ending_at-in-Bare.result c.ending_at-in-Bare.ensures memory in
    let first = g.C.Converter.grammar.bare c.in-Bare.reading in
    let wants = c.convert_bare.ensures.wants wanting in (
      wants.0,
      λ bytes at. wanting_next g.C.Converter.grammar _ g.C.Converter.wants g.met.C.Converter.is _ _ (g.C.Converter.has c.convert_bare.new.self.converter) bytes _ _ _ _ _ _ _ (gathered c.convert_bare.new.self.gatherer) first c.convert_bare.result at (c.in-Bare.ensures.gives at.rest at.ahead_is) (c.convert_bare.ensures.answers at.records at.has) wanting (wants.1 at.records at.has),
    )
