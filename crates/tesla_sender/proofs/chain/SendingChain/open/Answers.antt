use Rattle.std.proofs.Common.{sym, subst}
use Rattle.tesla_chain.specs.Traversal.{Traversing, IsOpened}
use Rattle.tesla_chain.specs.contracts.traversal.Traversal.{the_view}
use Rattle.tesla_sender.proofs.Kept.{used_none}
use Rattle.tesla_sender.proofs.chain.SendingChain.open.Goals as goal

pub invariant_of-result-2 : goal.invariant_of-result-2
invariant_of-result-2 g c =
    let a = c.args in
    let P : Traversing → Type 0 = λ t. IsOpened a.seed a.last t in
    let opened = subst P (sym c.traversal.view_is) c.in_ok-traversal.ensures.opened in
    used_none a.row.delay a.last a.seed c.new.result (the_view c.traversal.inside) c.in_ok-with_capacity.field-0 opened c.requires.least c.requires.most c.in_ok-with_capacity.ensures
