use Rattle.std.proofs.Common.{arith, ◌∙◌}
use Rattle.tesla_links.proofs.Shown.{HasGroup, group_read, listed_at, next_at}
use Rattle.tesla_links.proofs.index.Index.next.Goals.{After-index-group}
use Rattle.tesla_links.proofs.index.Index.next.Goals as goal

found : (c : After-index-group) → HasGroup c.self.inside c.args.slot c.index-group.result.now
found c = group_read _ _ _ (listed_at c.self.inside c.args.self.now _ c.self.view_is c.self.invariant c.args.slot c.requires) c.index-group.ensures

pub index-group-requires : goal.index-group-requires
index-group-requires c = omega (arith, listed_at c.self.inside c.args.self.now _ c.self.view_is c.self.invariant c.args.slot c.requires)

pub next-requires-clause-list : goal.next-requires-clause-list
next-requires-clause-list c = omega (arith, found (goal.at.next-requires-clause-list c).After-index-group)

pub next-requires-clause-slot : goal.next-requires-clause-slot
next-requires-clause-slot c = (next_at c.self.inside c.args.self.now _ c.self.view_is c.self.invariant _ _ (found (goal.at.next-requires-clause-slot c).After-index-group)).0

pub returns : goal.returns
returns c = c.next.ensures.value ∙ (next_at c.self.inside c.args.self.now _ c.self.view_is c.self.invariant _ _ (found (goal.at.returns c).After-index-group)).1
