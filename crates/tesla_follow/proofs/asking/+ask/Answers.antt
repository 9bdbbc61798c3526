use Rattle.std.proofs.Common.{ℕ, List, ◌∷◌, arith, rules, subst, sym, take}
use Rattle.std.specs.List.{AllByRecursion}
use Rattle.tesla_rollover.specs.Kept.{AskedReply}
use Rattle.tesla_follow.specs.Kept.{AskedKeepsBehind, IsCalled, asked_shown}
use Rattle.tesla_follow.specs.Stands.{EpochState}
use Rattle.tesla_follow.proofs.Asked.{AreAsked, ComesTo, called_more, given_asked, empty_asked, empty_comes, over_asked, shown_kept}
use Rattle.tesla_follow.proofs.asking.+ask.Goals as goal

pub returns-in-Over-ask-clause-stand : goal.returns-in-Over-ask-clause-stand
returns-in-Over-ask-clause-stand t c =
    let first = c.in-Some.epoch.now in let others = c.in-Some.others.now in
    subst (λ (epochs : List EpochState). AreAsked c.args.releaser epochs (c.take.new.self ∷ c.ask.new.epochs)) (sym c.in-Some.ensures.cases.0)
    (empty_asked c.args.releaser first c.take.new.self others c.ask.new.epochs c.in-Empty.ensures.answer c.take.ensures.stands c.ask.ensures.stand)

pub returns-in-Over-ask-clause-calls : goal.returns-in-Over-ask-clause-calls
returns-in-Over-ask-clause-calls t c = λ most called.
    let each = subst (λ (epochs : List EpochState). AllByRecursion (IsCalled most) epochs) c.in-Some.ensures.cases.0 called in
    (omega (arith, each.0, c.take.ensures.calls), c.ask.ensures.calls most each.1)

pub returns-in_default-ask : goal.returns-in_default-ask
returns-in_default-ask t c =
    let first = c.in-Some.epoch.now in let others = c.in-Some.others.now in
    let reply = asked_shown c.ask.result c.ask.new.into in
    record {
      answer = subst (λ (epochs : List EpochState). ComesTo c.args.number epochs reply) (sym c.in-Some.ensures.cases.0)
          (subst (λ (own : AskedReply). ComesTo c.args.number (first ∷ others) own) (shown_kept c.ask.result c.ask.new.into c.in_default-ask.not-Over)
          (empty_comes c.args.number first others reply c.in-Empty.ensures.answer c.ask.ensures.answer));
      stand = subst (λ (epochs : List EpochState). AreAsked c.args.releaser epochs (c.take.new.self ∷ c.ask.new.epochs)) (sym c.in-Some.ensures.cases.0)
          (empty_asked c.args.releaser first c.take.new.self others c.ask.new.epochs c.in-Empty.ensures.answer c.take.ensures.stands c.ask.ensures.stand);
      behind = subst (λ (into : List ℕ). AskedKeepsBehind c.ask.result into c.ask.new.into) c.in-Empty.ensures.behind c.ask.ensures.behind;
      shapes = search rules;
      calls = λ most called.
          let each = subst (λ (epochs : List EpochState). AllByRecursion (IsCalled most) epochs) c.in-Some.ensures.cases.0 called in
          (omega (arith, each.0, c.take.ensures.calls), c.ask.ensures.calls most each.1);
    }

pub returns-in-Over-clause-stand : goal.returns-in-Over-clause-stand
returns-in-Over-clause-stand t c =
    let first = c.in-Some.epoch.now in let others = c.in-Some.others.now in
    subst (λ (epochs : List EpochState). AreAsked c.args.releaser epochs (c.take.new.self ∷ c.ask-in-Over.new.epochs)) (sym c.in-Some.ensures.cases.0)
    (over_asked c.args.releaser first c.take.new.self others c.ask-in-Over.new.epochs c.in-Over.ensures.answer c.take.ensures.stands c.ask-in-Over.ensures.stand)

pub returns-in-Over-clause-calls : goal.returns-in-Over-clause-calls
returns-in-Over-clause-calls t c = λ most called.
    let each = subst (λ (epochs : List EpochState). AllByRecursion (IsCalled most) epochs) c.in-Some.ensures.cases.0 called in
    (omega (arith, each.0, c.take.ensures.calls), c.ask-in-Over.ensures.calls most each.1)

pub returns-in-Given-clause-stand : goal.returns-in-Given-clause-stand
returns-in-Given-clause-stand t c =
    let first = c.in-Some.epoch.now in let others = c.in-Some.others.now in let head = c.in-Given.head in
    subst (λ (epochs : List EpochState). AreAsked c.args.releaser epochs (c.take.new.self ∷ others)) (sym c.in-Some.ensures.cases.0)
    (given_asked c.args.releaser first c.take.new.self others head (take head.length c.take.new.into) c.in-Given.ensures.answer c.take.ensures.stands)

pub returns-in-Given-clause-calls : goal.returns-in-Given-clause-calls
returns-in-Given-clause-calls t c = λ most called.
    let each = subst (λ (epochs : List EpochState). AllByRecursion (IsCalled most) epochs) c.in-Some.ensures.cases.0 called in
    (omega (arith, each.0, c.take.ensures.calls), called_more most c.in-Some.others.now each.1)
