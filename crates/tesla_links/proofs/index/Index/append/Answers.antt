use Rattle.std.proofs.Common.{arith}
use Rattle.tesla_links.proofs.Grouped.{seen_capacity, seen_length, some_vacant}
use Rattle.tesla_links.proofs.Shown.{AreAppended, IsAbsent, absent_at, entries_appended, group_chosen, kept_appended}
use Rattle.tesla_links.proofs.index.Index.append.Goals.{After-append-3, After-enter_group-group}
use Rattle.tesla_links.proofs.index.Index.append.Goals as goal

-- the slot has no entry
free : (c : After-enter_group-group) → IsAbsent c.self.inside c.args.slot
free c = absent_at c.self.inside c.args.self.now _ c.self.view_is c.self.invariant c.args.slot c.requires.slot c.requires.absent

-- what the parts are in the end
appended : (c : After-append-3) → AreAppended c.self.inside c.append-2.new.self c.append.new.self c.append-3.new.self c.enter_group-group.new.keys.slots c.args.slot c.enter_group-group.result c.args.key
appended c = record {
  entry = absent_at c.self.inside c.args.self.now _ c.self.view_is c.self.invariant c.args.slot c.requires.slot c.requires.absent;
  may = c.enter_group-group.ensures.group;
  keys = c.enter_group-group.ensures.keys;
  order = (c.append-2.ensures.slot_count, c.append-2.ensures.lists);
  members = (c.append.ensures.slot_count, c.append.ensures.lists);
  unmarked = (c.append-3.ensures.slot_count, c.append-3.ensures.lists);
}

pub enter_group-group-requires : goal.enter_group-group-requires
enter_group-group-requires c =
    let i = c.self.inside in
    some_vacant i.capacity i.order i.members i.groups.items i.keys.slots c.self.invariant.0 (omega (arith, c.requires.room, seen_capacity i.capacity i.order i.unmarked i.groups.items i.keys.slots c.args.self.now c.self.view_is, seen_length i.capacity i.order i.unmarked i.groups.items i.keys.slots c.args.self.now c.self.view_is))

pub append-requires-clause-list : goal.append-requires-clause-list
append-requires-clause-list c =
    omega (arith, c.self.invariant.0.member_lists, group_chosen _ _ _ _ (free (goal.at.append-requires-clause-list c).After-enter_group-group) c.enter_group-group.ensures.group)

pub append-requires-clause-nowhere : goal.append-requires-clause-nowhere
append-requires-clause-nowhere c = (free (goal.at.append-requires-clause-nowhere c).After-enter_group-group).not_in_members

pub append-requires-2-clause-nowhere : goal.append-requires-2-clause-nowhere
append-requires-2-clause-nowhere c = (free (goal.at.append-requires-2-clause-nowhere c).After-enter_group-group).not_in_order

pub append-requires-3-clause-list : goal.append-requires-3-clause-list
append-requires-3-clause-list c =
    omega (arith, c.self.invariant.1.lists, group_chosen _ _ _ _ (free (goal.at.append-requires-3-clause-list c).After-enter_group-group) c.enter_group-group.ensures.group)

pub append-requires-3-clause-nowhere : goal.append-requires-3-clause-nowhere
append-requires-3-clause-nowhere c = (free (goal.at.append-requires-3-clause-nowhere c).After-enter_group-group).not_in_unmarked

pub invariant_of-self : goal.invariant_of-self
invariant_of-self c = kept_appended _ _ _ _ _ _ _ _ (appended (goal.at.invariant_of-self c).After-append-3)

pub returns-clause-entries : goal.returns-clause-entries
returns-clause-entries c = entries_appended _ _ _ _ _ _ _ _ (appended (goal.at.returns-clause-entries c).After-append-3) c.args.self.now _ c.self.view_is
