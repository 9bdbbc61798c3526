use Rattle.std.proofs.Common.{◌∙◌, ap}
use Rattle.tesla_links.specs.Entries.{Entries, marked_at}
use Rattle.tesla_links.proofs.Grouped.{mark_entries, mark_marked}
use Rattle.tesla_links.proofs.Shown.{listed_at}
use Rattle.tesla_links.proofs.index.Index.mark.Goals as goal

pub transfer-requires-clause-somewhere : goal.transfer-requires-clause-somewhere
transfer-requires-clause-somewhere c = (listed_at c.self.inside c.args.self.now _ c.self.view_is c.self.invariant c.args.slot c.requires).in_unmarked

pub invariant_of-self : goal.invariant_of-self
invariant_of-self c =
    let i = c.self.inside in
    let listed = (listed_at i c.args.self.now _ c.self.view_is c.self.invariant c.args.slot c.requires).listed in
    (c.self.invariant.0, mark_marked i.capacity i.order i.members i.unmarked c.transfer.new.self i.groups.items i.keys.slots c.args.slot c.self.invariant.1 listed c.transfer.ensures.slot_count c.transfer.ensures.lists)

pub returns-clause-entries : goal.returns-clause-entries
returns-clause-entries c =
    let i = c.self.inside in
    let listed = (listed_at i c.args.self.now _ c.self.view_is c.self.invariant c.args.slot c.requires).listed in
    mark_entries i.capacity i.order i.members i.unmarked c.transfer.new.self i.groups.items i.keys.slots c.args.slot c.self.invariant.1 listed c.transfer.ensures.slot_count c.transfer.ensures.lists
    ∙ ap (marked_at c.args.slot) (ap (λ (v : Entries). v.entries) c.self.view_is)
