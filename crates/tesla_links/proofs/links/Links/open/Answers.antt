use Rattle.tesla_links.proofs.Linked.{in_view, opened, same_shown}
use Rattle.tesla_links.proofs.Rings.{lists_of_is}
use Rattle.tesla_links.proofs.links.Links.open.Goals as goal

pub invariant_of-result : goal.invariant_of-result
invariant_of-result c = in_view c.args.slot_count _ _ _ _ _ (opened c.args.slot_count c.args.lists _ _ _ _ c.requires.small c.requires.few c.in_ok-numbers.ensures c.in_ok-numbers-2.ensures (c.in_ok-vec.ensures.items_if_clones_equal (λ y h. h)) (c.in_ok-vec-2.ensures.items_if_clones_equal (λ y h. h)))

pub returns : goal.returns
returns c = same_shown c.args.slot_count _ _ _ (lists_of_is c.args.slot_count _ _ _ _ _ (opened c.args.slot_count c.args.lists _ _ _ _ c.requires.small c.requires.few c.in_ok-numbers.ensures c.in_ok-numbers-2.ensures (c.in_ok-vec.ensures.items_if_clones_equal (λ y h. h)) (c.in_ok-vec-2.ensures.items_if_clones_equal (λ y h. h))))
