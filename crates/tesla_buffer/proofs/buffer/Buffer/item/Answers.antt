use Rattle.std.proofs.Common.{arith, ◌∙◌, sym, ap, Some}
use Rattle.std.specs.List.{find}
use Rattle.std.proofs.lemmas.List.{get_or_read}
use Rattle.tesla_buffer.specs.Held.{is_at}
use Rattle.tesla_buffer.specs.Stored.{no_item}
use Rattle.tesla_buffer.proofs.HeldSlots.{find_live}
use Rattle.tesla_buffer.proofs.Shown.{capacity_seen, held_at_slot, held_seen}
use Rattle.tesla_buffer.proofs.buffer.Buffer.item.Goals as goal

pub index-requires : goal.index-requires
index-requires c = omega (arith, held_at_slot c.self.inside c.args.self.now _ c.self.view_is c.self.invariant c.args.place.0 c.requires)

pub returns-clause-item : goal.returns-clause-item
returns-clause-item c =
    let i = c.self.inside in
    let at = held_at_slot c.self.inside c.args.self.now _ c.self.view_is c.self.invariant c.args.place.0 c.requires in
    let read = get_or_read i.slots.items c.args.place.0 c.index.result.now at.within c.index.ensures no_item in
    ap (find (is_at c.args.place.0)) (sym (held_seen c.self.inside c.args.self.now _ c.self.view_is c.self.invariant)) ∙ find_live i.slots.items c.args.place.0 i.index.entries at.live ∙ ap (λ x. Some (record { place = c.args.place.0; item = x })) (sym read)

pub returns-clause-within : goal.returns-clause-within
returns-clause-within c = omega (arith, held_at_slot c.self.inside c.args.self.now _ c.self.view_is c.self.invariant c.args.place.0 c.requires, capacity_seen c.self.inside c.args.self.now _ c.self.view_is c.self.invariant)
