use Rattle.std.proofs.Common.{length, arith, ap}
use Rattle.std.proofs.lemmas.List.{length-map}
use Rattle.tesla_base.specs.Members.{without}
use Rattle.tesla_links.proofs.Shown.{AreRemoved, HasGroup, group_read, left_kept, left_vacant, listed_at}
use Rattle.tesla_links.proofs.index.Index.remove.Goals.{After-count, After-index-group}
use Rattle.tesla_links.proofs.index.Index.remove.Goals as goal

-- the slot has an entry, whose group was read
found : (c : After-index-group) → HasGroup c.self.inside c.args.slot c.index-group.result.now
found c = group_read _ _ _ (listed_at c.self.inside c.args.self.now _ c.self.view_is c.self.invariant c.args.slot c.requires) c.index-group.ensures

-- what the parts are once it is gone
removed : (c : After-count) → HasGroup c.self.inside c.args.slot c.index-group.result.now → AreRemoved c.self.inside c.remove-2.new.self c.remove.new.self c.remove-3.new.self c.args.slot c.index-group.result.now c.count.result
removed c own = record {
  entry = own;
  order = (c.remove-2.ensures.slot_count, c.remove-2.ensures.lists);
  members = (c.remove.ensures.slot_count, c.remove.ensures.lists);
  unmarked = (c.remove-3.ensures.slot_count, c.remove-3.ensures.lists);
  counted = c.count.ensures;
}

pub index-group-requires : goal.index-group-requires
index-group-requires c = omega (arith, listed_at c.self.inside c.args.self.now _ c.self.view_is c.self.invariant c.args.slot c.requires)

pub remove-requires : goal.remove-requires
remove-requires c = record { somewhere = (found (goal.at.remove-requires c).After-index-group).entry.in_members }

pub remove-requires-2 : goal.remove-requires-2
remove-requires-2 c = record { somewhere = (found (goal.at.remove-requires-2 c).After-index-group).entry.in_order }

pub remove-requires-3 : goal.remove-requires-3
remove-requires-3 c = record { somewhere = (found (goal.at.remove-requires-3 c).After-index-group).entry.in_unmarked }

pub count-requires : goal.count-requires
count-requires c =
    omega (arith, found (goal.at.count-requires c).After-index-group, ap length c.remove.ensures.lists, length-map c.self.inside.members.lists (without c.args.slot))

pub clear-requires : goal.clear-requires
clear-requires c = omega (arith, found (goal.at.clear-requires c).After-index-group)

pub invariant_of-self : goal.invariant_of-self
invariant_of-self c = let at = goal.at.invariant_of-self c in (left_vacant c.self.inside c.args.self.now _ c.self.view_is _ _ _ _ _ _ (removed at.After-count (found at.After-index-group)) c.clear.new.self.slots c.clear.ensures.slots c.if-count-eq0.true).0

pub invariant_of-self-else-count-eq0 : goal.invariant_of-self-else-count-eq0
invariant_of-self-else-count-eq0 c = let at = goal.at.invariant_of-self-else-count-eq0 c in (left_kept c.self.inside c.args.self.now _ c.self.view_is _ _ _ _ _ _ (removed at.After-count (found at.After-index-group)) c.if-count-eq0.false).0

pub returns-then-count-eq0-clause-entries : goal.returns-then-count-eq0-clause-entries
returns-then-count-eq0-clause-entries c = let at = goal.at.returns-then-count-eq0-clause-entries c in (left_vacant c.self.inside c.args.self.now _ c.self.view_is _ _ _ _ _ _ (removed at.After-count (found at.After-index-group)) c.clear.new.self.slots c.clear.ensures.slots c.if-count-eq0.true).1

pub returns-else-count-eq0-clause-entries : goal.returns-else-count-eq0-clause-entries
returns-else-count-eq0-clause-entries c = let at = goal.at.returns-else-count-eq0-clause-entries c in (left_kept c.self.inside c.args.self.now _ c.self.view_is _ _ _ _ _ _ (removed at.After-count (found at.After-index-group)) c.if-count-eq0.false).1
