use Rattle.std.proofs.Common.{arith, ◌∙◌, ◌≡◌, false}
use Rattle.tesla_links.specs.Indexed.{is_marked}
use Rattle.tesla_links.proofs.Shown.{HasGroup, group_read, next_unmarked_at, unmarked_at}
use Rattle.tesla_links.proofs.index.Index.next_unmarked.Goals.{After-index-group}
use Rattle.tesla_links.proofs.index.Index.next_unmarked.Goals as goal

found : (c : After-index-group) → HasGroup c.self.inside c.args.slot c.index-group.result.now × (is_marked c.self.inside.capacity c.self.inside.unmarked c.args.slot ≡ false)
found c =
    let at = unmarked_at c.self.inside c.args.self.now _ c.self.view_is c.self.invariant c.args.slot c.requires in
    (group_read _ _ _ at.0 c.index-group.ensures, at.1)

pub index-group-requires : goal.index-group-requires
index-group-requires c = omega (arith, (unmarked_at c.self.inside c.args.self.now _ c.self.view_is c.self.invariant c.args.slot c.requires).0)

pub next-requires-clause-list : goal.next-requires-clause-list
next-requires-clause-list c = omega (arith, (found (goal.at.next-requires-clause-list c).After-index-group).0)

pub next-requires-clause-slot : goal.next-requires-clause-slot
next-requires-clause-slot c =
    let own = found (goal.at.next-requires-clause-slot c).After-index-group in
    (next_unmarked_at c.self.inside c.args.self.now _ c.self.view_is c.self.invariant _ _ own.0 own.1).0

pub returns : goal.returns
returns c =
    let own = found (goal.at.returns c).After-index-group in
    c.next.ensures.value ∙ (next_unmarked_at c.self.inside c.args.self.now _ c.self.view_is c.self.invariant _ _ own.0 own.1).1
