use Rattle.std.proofs.Common.{ap}
use Rattle.tesla_links.specs.Slots.{Slots}
use Rattle.tesla_links.proofs.Keyed.{at_view, first_vacant}
use Rattle.tesla_links.proofs.key_table.KeyTable.vacant.Goals as goal

pub returns : goal.returns
returns c =
    let i = c.self.inside in
    let h = at_view i.capacity i.chains i.keys.items c.args.self.now.slots (ap (λ (v : Slots). v.slots) c.self.view_is) c.self.invariant in
    first_vacant i.capacity i.chains i.keys.items c.args.self.now.slots h c.first.result c.first.ensures.value
