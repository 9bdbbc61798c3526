use Rattle.tesla_convert.proofs.Held.{holds_none}
use Rattle.tesla_convert.proofs.Made.{settled}
use Rattle.tesla_convert.proofs.Wanting.{wanting_settled}
use Rattle.tesla_convert.proofs.conversion.Conversion.convert.Goals as goal

pub returns-clause-converts : goal.returns-clause-converts
returns-clause-converts g c bytes told =
    settled g.C.Converter.grammar _ (g.C.Converter.rule c.args.self.converter) (g.C.Converter.ended c.convert_all-outcome.new.self.converter) c.convert_all-outcome.result c.settle-settled.result bytes _ _ _ _ _
    (c.convert_all-outcome.ensures.converts bytes told c.requires.has (holds_none _ _ c.requires.empty c.requires.none)) c.settle-settled.ensures.settles

pub returns-clause-wants : goal.returns-clause-wants
returns-clause-wants g c memory =
    let outcome = c.settle-settled.ensures.wants memory in
    let wants = c.convert_all-outcome.ensures.wants outcome in (
      wants.0,
      λ bytes told.
          wanting_settled g.C.Converter.grammar _ g.C.Converter.wants _ c.convert_all-outcome.result c.settle-settled.result bytes _ _ _ _ c.settle-settled.ensures.settles outcome
          (wants.1 bytes told c.requires.has (holds_none _ _ c.requires.empty c.requires.none)),
    )
