use Rattle.std.proofs.Common.{ap, ◌∙◌, ◌++◌, ◌∷◌, []}
use Rattle.tesla_links.proofs.Linked.{range_more}
use Rattle.tesla_links.proofs.links.numbers.Goals as goal

pub loop-number-preserved : goal.loop-number-preserved
loop-number-preserved c = c.in_ok-push.ensures.items ∙ ap (λ xs. xs ++ c.loop-number.number ∷ []) c.loop-number.invariant ∙ range_more c.loop-number.number
