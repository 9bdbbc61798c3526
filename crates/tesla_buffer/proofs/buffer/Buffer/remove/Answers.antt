use Rattle.std.proofs.Common.{not, arith, ◌∙◌, ap}
use Rattle.std.specs.List.{filter}
use Rattle.tesla_buffer.specs.Held.{Held, is_at}
use Rattle.tesla_buffer.proofs.Stored.{held_gone, stored_gone}
use Rattle.tesla_buffer.proofs.Shown.{held_at_slot, held_seen}
use Rattle.tesla_buffer.proofs.buffer.Buffer.remove.Goals as goal

pub remove-requires : goal.remove-requires
remove-requires c = (held_at_slot c.self.inside c.args.self.now _ c.self.view_is c.self.invariant c.args.place c.requires).entry

pub clear-requires : goal.clear-requires
clear-requires c = omega (arith, held_at_slot c.self.inside c.args.self.now _ c.self.view_is c.self.invariant c.args.place c.requires)

pub invariant_of-self : goal.invariant_of-self
invariant_of-self c =
    let i = c.self.inside in
    let at = held_at_slot c.self.inside c.args.self.now _ c.self.view_is c.self.invariant c.args.place c.requires in (
      stored_gone i.capacity i.slots.items i.free.items c.push_reserved.new.self.items i.index c.remove.new.self i.released.slots c.clear.new.self.slots c.args.place at.stored at.live c.remove.ensures.entries c.remove.ensures.capacity c.push_reserved.ensures.items c.clear.ensures.slots,
      c.self.invariant.1,
      omega (arith, c.self.invariant.2, c.push_reserved.ensures.capacity),
      c.self.invariant.3,
    )

pub returns-clause-held : goal.returns-clause-held
returns-clause-held c =
    let i = c.self.inside in
    let at = held_at_slot c.self.inside c.args.self.now _ c.self.view_is c.self.invariant c.args.place c.requires in
    held_gone i.capacity i.slots.items i.free.items i.free.items i.index c.remove.new.self i.released.slots i.released.slots c.args.place at.stored at.live c.remove.ensures.entries
    ∙ ap (filter (λ (x : Held). not (is_at c.args.place x))) (held_seen c.self.inside c.args.self.now _ c.self.view_is c.self.invariant)
