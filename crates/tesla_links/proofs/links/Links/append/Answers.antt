use Rattle.std.proofs.Common.{◌+◌, arith}
use Rattle.std.proofs.lemmas.List.{get_or_read}
use Rattle.tesla_links.proofs.Linked.{at_view, count_within, in_view, last_within, longer_by}
use Rattle.tesla_links.proofs.Rings.{lists_of_is}
use Rattle.tesla_links.proofs.links.Links.append.Goals as goal

pub index_mut-requires : goal.index_mut-requires
index_mut-requires c =
    let i = c.self.inside in
    let seen = at_view i c.args.self.now _ c.self.view_is c.self.invariant in
    let within = last_within i.slot_count i.after.items i.before.items i.owners.items i.counts.items c.args.self.now.lists c.args.list c.args.slot seen.linked c.requires.list in
    let read = get_or_read i.before.items (i.slot_count + c.args.list) c.index-last.result.now (omega arith) c.index-last.ensures 0 in
    omega arith

pub overflow_add-index_mut : goal.overflow_add-index_mut
overflow_add-index_mut c =
    let i = c.self.inside in
    let seen = at_view i c.args.self.now _ c.self.view_is c.self.invariant in
    omega (
      arith,
      get_or_read i.counts.items c.args.list c.index_mut-6.result.now (omega arith) c.index_mut-6.ensures.value 0,
      count_within i.slot_count i.after.items i.before.items i.owners.items i.counts.items c.args.self.now.lists c.args.list c.args.slot seen.linked c.requires.list,
    )

pub invariant_of-self : goal.invariant_of-self
invariant_of-self c =
    in_view _ _ _ _ _ _
    (longer_by c.self.inside c.args.self.now _ _ _ _ (at_view _ _ _ c.self.view_is c.self.invariant) c.requires.list c.requires.slot c.requires.nowhere c.index-last.ensures c.index_mut-6.ensures.value)

pub returns-clause-lists : goal.returns-clause-lists
returns-clause-lists c =
    lists_of_is _ _ _ _ _ _
    (longer_by c.self.inside c.args.self.now _ _ _ _ (at_view _ _ _ c.self.view_is c.self.invariant) c.requires.list c.requires.slot c.requires.nowhere c.index-last.ensures c.index_mut-6.ensures.value)
