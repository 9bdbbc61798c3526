use Rattle.std.proofs.Common.{Err, ap}
use Rattle.tesla_convert.specs.declared.converter.Halt.{Halt}
use Rattle.tesla_convert.proofs.Made.{finished, halted, refused_all}
use Rattle.tesla_convert.proofs.Wanting.{wanting_end}
use Rattle.tesla_convert.proofs.conversion.Conversion.convert_to_end.Goals as goal

pub returns-in-Ok-clause-converts : goal.returns-in-Ok-clause-converts
returns-in-Ok-clause-converts g c bytes told has holds =
    finished g.C.Converter.grammar _ (g.C.Converter.rule c.args.self.now.converter) (g.C.Converter.rule c.convert_records.new.self.converter) (g.C.Converter.has c.convert_records.new.self.converter) (g.C.Converter.ended c.finish.new.self) c.in-Ok-End.field-0 bytes (g.S.Source.left c.convert_records.new.source) _ _ _ _ c.convert_records.ensures.rule c.in-Ok-End.field-0-is
    (c.in-Ok-End.ensures.converts bytes told has holds) c.in-Ok.ensures.ended c.in-Ok.ensures.writes

pub returns-in-Err-WriteFault-clause-converts : goal.returns-in-Err-WriteFault-clause-converts
returns-in-Err-WriteFault-clause-converts g c bytes told has holds =
    halted g.C.Converter.grammar _ (g.C.Converter.rule c.args.self.now.converter) (g.C.Converter.rule c.convert_records.new.self.converter) (g.C.Converter.has c.convert_records.new.self.converter) c.in-Ok-End.field-0 bytes (g.S.Source.left c.convert_records.new.source) _ _ _ c.convert_records.ensures.rule c.in-Ok-End.field-0-is
    (c.in-Ok-End.ensures.converts bytes told has holds) c.in-Err-WriteFault.ensures.halts

pub returns-in-Err-NoMemory-clause-converts : goal.returns-in-Err-NoMemory-clause-converts
returns-in-Err-NoMemory-clause-converts g c bytes told has holds =
    halted g.C.Converter.grammar _ (g.C.Converter.rule c.args.self.now.converter) (g.C.Converter.rule c.convert_records.new.self.converter) (g.C.Converter.has c.convert_records.new.self.converter) c.in-Ok-End.field-0 bytes (g.S.Source.left c.convert_records.new.source) _ _ _ c.convert_records.ensures.rule c.in-Ok-End.field-0-is
    (c.in-Ok-End.ensures.converts bytes told has holds) c.in-Err-NoMemory.ensures.halts

pub returns-in-Ok-Refused-clause-converts : goal.returns-in-Ok-Refused-clause-converts
returns-in-Ok-Refused-clause-converts g c bytes told has holds =
    refused_all g.C.Converter.grammar _ _ _ (g.C.Converter.ended c.convert_records.new.self.converter) c.in-Ok-Refused.field-0 c.in-Ok-Refused.place c.in-Ok-Refused.kind bytes _ _ _ c.in-Ok-Refused.field-0-is (c.in-Ok-Refused.ensures.converts bytes told has holds)

pub returns-in-Err-NoMemory-clause-wants : goal.returns-in-Err-NoMemory-clause-wants
returns-in-Err-NoMemory-clause-wants g c memory =
    let wants = c.in-Err-NoMemory.ensures.wants (ap (λ (halt : Halt). Err halt) c.in-Err-NoMemory.field-0-is) in (
      wants.0,
      λ bytes told has holds.
          wanting_end g.C.Converter.grammar _ g.C.Converter.wants (g.C.Converter.rule c.args.self.now.converter) (g.C.Converter.has c.convert_records.new.self.converter) c.in-Ok-End.field-0 bytes (g.S.Source.left c.convert_records.new.source) _ _ _ c.in-Ok-End.field-0-is
          (c.in-Ok-End.ensures.converts bytes told has holds) wants.2,
    )
