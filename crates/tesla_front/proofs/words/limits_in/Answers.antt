use Rattle.std.proofs.Common.{◌+◌, ℕ, List, subst, sym}
use Rattle.std.proofs.lemmas.List.{take_rest}
use Rattle.tesla_front.specs.Words.{IsNumberWithin}
use Rattle.tesla_front.proofs.Slashes.{both_spelled, both_found, lone_is, none_is}
use Rattle.tesla_front.proofs.words.limits_in.Goals as goal

pub returns-in-Some-clause-found : goal.returns-in-Some-clause-found
returns-in-Some-clause-found c = both_found c.args.word.now c.in-Some.place c.both_in.result (sym c.in-Some.ensures) c.both_in.ensures.found

pub returns-in-Some-clause-only : goal.returns-in-Some-clause-only
returns-in-Some-clause-only c limits are =
    let both = both_spelled c.args.word.now c.in-Some.place limits (sym c.in-Some.ensures) are in
    c.both_in.ensures.only limits both.0 (subst (λ (back : List ℕ). IsNumberWithin 1 limits.capacity back limits.quota) (sym (take_rest c.args.word.now (c.in-Some.place + 1))) both.1)

pub returns-in-Some-count_in-clause-only : goal.returns-in-Some-count_in-clause-only
returns-in-Some-count_in-clause-only c limits are =
    lone_is c.args.word.now c.in-Some-count_in.number limits (sym c.in-None.ensures) c.in-Some-count_in.ensures.only are

pub returns-in-None-count_in-clause-only : goal.returns-in-None-count_in-clause-only
returns-in-None-count_in-clause-only c limits are =
    absurd (none_is c.args.word.now limits (sym c.in-None.ensures) c.in-None-count_in.ensures.only are)
