use Rattle.std.proofs.Common.{length, ◌∙◌, ap}
use Rattle.std.proofs.lemmas.List.{length-replicate}
use Rattle.tesla_links.proofs.Keyed.{in_view, opened, slots_of_is}
use Rattle.tesla_links.proofs.key_table.KeyTable.open.Goals as goal

pub invariant_of-result : goal.invariant_of-result
invariant_of-result c = in_view c.args.capacity _ _ _ (opened c.args.capacity c.in_ok-vacant_chains.field-0 c.in_ok-vec.field-0.items c.requires.some c.requires.most c.in_ok-vacant_chains.ensures (ap length (c.in_ok-vec.ensures.items_if_clones_equal (λ y h. h)) ∙ length-replicate c.args.capacity 0))

pub returns : goal.returns
returns c = slots_of_is c.args.capacity _ _ _ (opened c.args.capacity c.in_ok-vacant_chains.field-0 c.in_ok-vec.field-0.items c.requires.some c.requires.most c.in_ok-vacant_chains.ensures (ap length (c.in_ok-vec.ensures.items_if_clones_equal (λ y h. h)) ∙ length-replicate c.args.capacity 0))
