use Rattle.std.proofs.Common.{rules, tests, ◌∙◌}
use Rattle.std.proofs.lemmas.Iterator.{YieldsList-from_slice}
use Rattle.std.proofs.lemmas.Iterator.Search.{position_from_yields_List}
use Rattle.tesla_follow.proofs.Found.{found_is, is_of}
use Rattle.tesla_follow.proofs.finding.place_of.Goals as goal

pub returns : goal.returns
returns c =
    position_from_yields_List (is_of c.args.stream) _ _ _ c.position.ensures.ran (YieldsList-from_slice c.args.epochs.now cc) (λ x b q k. search (rules, tests))
    ∙ found_is c.args.stream c.args.epochs.now
