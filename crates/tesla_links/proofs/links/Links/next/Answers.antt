use Rattle.std.proofs.Common.{arith}
use Rattle.tesla_links.specs.Lists.{list_of}
use Rattle.tesla_links.proofs.Linked.{at_view, next_read, owned_in}
use Rattle.tesla_links.proofs.links.Links.next.Goals as goal

pub index-next-requires : goal.index-next-requires
index-next-requires c =
    let i = c.self.inside in
    let seen = at_view i c.args.self.now _ c.self.view_is c.self.invariant in
    omega (arith, (owned_in i.slot_count i.owners.items c.args.list (list_of c.args.self.now c.args.list) c.args.slot (seen.linked.each c.args.list c.requires.list).owned c.requires.slot).0)

pub returns-then-next-self-clause-value : goal.returns-then-next-self-clause-value
returns-then-next-self-clause-value c =
    (next_read c.self.inside c.args.self.now c.args.list c.args.slot _ (at_view c.self.inside c.args.self.now _ c.self.view_is c.self.invariant) c.requires.list c.requires.slot c.index-next.ensures).0 c.if-next-self.true

pub returns-clause-value : goal.returns-clause-value
returns-clause-value c =
    (next_read c.self.inside c.args.self.now c.args.list c.args.slot _ (at_view c.self.inside c.args.self.now _ c.self.view_is c.self.invariant) c.requires.list c.requires.slot c.index-next.ensures).1 c.if-next-self.false
