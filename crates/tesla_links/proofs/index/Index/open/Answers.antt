use Rattle.std.proofs.Common.{◌≡◌, [], map, ◌∙◌, ap}
use Rattle.tesla_links.specs.Indexed.{entries_of, entry_of, is_marked}
use Rattle.tesla_links.specs.Lists.{Lists, list_of}
use Rattle.tesla_links.proofs.Grouped.{entries_are, indexed_open, marked_open, same_shown}
use Rattle.tesla_links.proofs.index.Index.open.Goals as goal

pub invariant_of-result : goal.invariant_of-result
invariant_of-result c = (
  indexed_open c.args.capacity c.in_ok-open.field-0 c.in_ok-open-2.field-0 c.in_ok-vec.field-0.items c.in_ok-open-4.field-0.slots c.requires.some c.requires.most c.in_ok-open.ensures c.in_ok-open-2.ensures (c.in_ok-vec.ensures.items_if_clones_equal (λ y h. h)) c.in_ok-open-4.ensures,
  marked_open c.args.capacity c.in_ok-open.field-0 c.in_ok-open-2.field-0 c.in_ok-open-3.field-0 c.in_ok-open.ensures c.in_ok-open-2.ensures c.in_ok-open-3.ensures,
)

pub returns : goal.returns
returns c =
    let order = c.in_ok-open.field-0 in
    let keys = c.in_ok-open-4.field-0.slots in
    let groups = c.in_ok-vec.field-0.items in
    let marks = is_marked c.args.capacity c.in_ok-open-3.field-0 in
    let none : entries_of order keys groups marks ≡ [] = entries_are order keys groups marks ∙ ap (λ (v : Lists). map (entry_of keys groups marks) (list_of v 0)) c.in_ok-open.ensures in
    same_shown c.args.capacity _ _ _ none
