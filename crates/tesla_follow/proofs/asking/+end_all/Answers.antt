use Rattle.std.proofs.Common.{List, arith, subst}
use Rattle.std.specs.List.{AllByRecursion}
use Rattle.tesla_follow.specs.Kept.{IsCalled}
use Rattle.tesla_follow.specs.Stands.{EpochState}
use Rattle.tesla_follow.proofs.asking.+end_all.Goals as goal

pub returns-clause-calls : goal.returns-clause-calls
returns-clause-calls t c = λ most called.
    let each = subst (λ (epochs : List EpochState). AllByRecursion (IsCalled most) epochs) c.in-Some.ensures.cases.0 called in
    (omega (arith, each.0, c.end.ensures.calls), c.end_all.ensures.calls most each.1)
