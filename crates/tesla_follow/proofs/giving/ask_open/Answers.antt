use Rattle.std.proofs.Common.{◌+◌, List, sym, subst}
use Rattle.std.specs.List.{AllByRecursion}
use Rattle.tesla_follow.specs.Kept.{IsCalled}
use Rattle.tesla_follow.specs.Stands.{EpochState}
use Rattle.tesla_follow.proofs.Back.{back}
use Rattle.tesla_follow.proofs.giving.ask_open.Goals as goal

pub returns-clause-calls : goal.returns-clause-calls
returns-clause-calls c most called =
    subst (λ (es : List EpochState). AllByRecursion (IsCalled (most + 1)) es) (sym (back c.args.epochs.now.len c.as_mut_slice.result.now c.ask.new.epochs c.args.epochs.now.items c.as_mut_slice.ensures.len c.ask.ensures.shapes))
    (c.ask.ensures.calls most (subst (λ (es : List EpochState). AllByRecursion (IsCalled most) es) (sym c.as_mut_slice.ensures.value) called))
