use Rattle.std.proofs.Common.{arith, ap}
use Rattle.std.proofs.lemmas.List.{get_or_read}
use Rattle.std.specs.Prelude.{get_or}
use Rattle.tesla_links.proofs.Linked.{AreRead, IsStanding, in_view, left_without, list_counted, standing}
use Rattle.tesla_links.proofs.Rings.{lists_of_is}
use Rattle.tesla_links.proofs.links.Links.remove.Goals.{After-self, After-index-list}
use Rattle.tesla_links.proofs.links.Links.remove.Goals as goal

-- the slot stands in one of the lists, which are in their rings
stands : (c : After-self) → IsStanding c.self.inside c.args.self.now c.args.slot
stands c = standing c.self.inside c.args.self.now c.args.slot _ c.self.view_is c.self.invariant c.requires.somewhere

-- the nodes beside it and its list, as they were read
read : (c : After-index-list) → AreRead c.self.inside c.args.self.now c.args.slot c.index-after.result.now c.index-before.result.now c.index-list.result.now
read c =
    let i = c.self.inside in
    let s = standing i c.args.self.now c.args.slot _ c.self.view_is c.self.invariant c.requires.somewhere in
    record {
      stands = s;
      after = get_or_read i.after.items c.args.slot c.index-after.result.now (omega arith) c.index-after.ensures 0;
      before = get_or_read i.before.items c.args.slot c.index-before.result.now (omega arith) c.index-before.ensures 0;
      list = get_or_read i.owners.items c.args.slot c.index-list.result.now (omega arith) c.index-list.ensures 0;
    }

pub index-after-requires : goal.index-after-requires
index-after-requires c = omega (arith, stands (goal.at.index-after-requires c).After-self)

pub index-before-requires : goal.index-before-requires
index-before-requires c = omega (arith, stands (goal.at.index-before-requires c).After-self)

pub index-list-requires : goal.index-list-requires
index-list-requires c = omega (arith, stands (goal.at.index-list-requires c).After-self)

pub index_mut-requires : goal.index_mut-requires
index_mut-requires c = omega (arith, read (goal.at.index_mut-requires c).After-index-list)

pub index_mut-requires-2 : goal.index_mut-requires-2
index_mut-requires-2 c = omega (arith, read (goal.at.index_mut-requires-2 c).After-index-list)

pub index_mut-requires-3 : goal.index_mut-requires-3
index_mut-requires-3 c = omega (arith, read (goal.at.index_mut-requires-3 c).After-index-list)

pub overflow_sub-index_mut : goal.overflow_sub-index_mut
overflow_sub-index_mut c =
    let r = read (goal.at.overflow_sub-index_mut c).After-index-list in
    omega (arith, list_counted _ _ _ _ _ _ _ r c.index_mut-3.ensures.value, ap (λ k. get_or c.self.inside.counts.items k 0) r.list)

pub invariant_of-self : goal.invariant_of-self
invariant_of-self c =
    in_view _ _ _ _ _ _ (left_without _ _ _ _ _ _ _ (read (goal.at.invariant_of-self c).After-index-list) c.index_mut-3.ensures.value)

pub returns-clause-lists : goal.returns-clause-lists
returns-clause-lists c =
    lists_of_is _ _ _ _ _ _ (left_without _ _ _ _ _ _ _ (read (goal.at.returns-clause-lists c).After-index-list) c.index_mut-3.ensures.value)

pub returns-clause-within : goal.returns-clause-within
returns-clause-within c = omega (arith, stands (goal.at.returns-clause-within c).After-self)
