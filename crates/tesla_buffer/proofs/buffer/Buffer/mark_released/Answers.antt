use Rattle.std.proofs.Common.{length, get_or, true, arith, refl, ◌∙◌, ap, Some, None}
use Rattle.std.proofs.Math.ListN.{set}
use Rattle.std.proofs.lemmas.List.{get_or-set_other, get_or-set_same, get_or_read, length-set}
use Rattle.tesla_buffer.specs.Stored.{no_item, entry_slots}
use Rattle.tesla_buffer.specs.declared.item.Item.{Item}
use Rattle.tesla_buffer.proofs.Resting.{beside_over}
use Rattle.tesla_buffer.proofs.HeldSlots.{held_same_slots, marked_slots}
use Rattle.tesla_buffer.proofs.Shown.{changed_seen, held_at_slot, over_released, over_stored}
use Rattle.tesla_buffer.proofs.buffer.Buffer.mark_released.Goals as goal

pub index_mut-item-requires : goal.index_mut-item-requires
index_mut-item-requires c = omega (arith, held_at_slot c.self.inside c.args.self.now _ c.self.view_is c.self.invariant c.args.place c.requires)

pub index_mut-requires : goal.index_mut-requires
index_mut-requires c = omega (arith, held_at_slot c.self.inside c.args.self.now _ c.self.view_is c.self.invariant c.args.place c.requires)

pub enter-requires : goal.enter-requires
enter-requires c = omega (arith, held_at_slot c.self.inside c.args.self.now _ c.self.view_is c.self.invariant c.args.place c.requires)

pub mark-requires : goal.mark-requires
mark-requires c = (held_at_slot c.self.inside c.args.self.now _ c.self.view_is c.self.invariant c.args.place c.requires).entry

pub invariant_of-self : goal.invariant_of-self
invariant_of-self c =
    let i = c.self.inside in
    let p = c.args.place in
    let at = held_at_slot c.self.inside c.args.self.now _ c.self.view_is c.self.invariant p c.requires in
    let r = c.index_mut-item.result.now in
    let it : Item = record r { released = true } in
    let key = c.key_of_name.result in
    let name = ap (λ (x : Item). x.name) (get_or_read i.slots.items p r at.within c.index_mut-item.ensures.value no_item) in (
      over_stored i p it c.mark.new.self c.enter.new.self.slots at name (ap entry_slots c.mark.ensures.entries ∙ marked_slots p i.index.entries) c.mark.ensures.capacity
          (over_released i p it c.mark.new.self c.enter.new.self.slots at name refl c.mark.ensures.entries)
          (λ _. c.key_of_name.ensures.number) (ap length c.enter.ensures.slots ∙ length-set i.released.slots p (Some key))
          (ap (λ ks. get_or ks p None) c.enter.ensures.slots ∙ get_or-set_same i.released.slots p (Some key) None (omega (arith, at)) ∙ ap Some c.key_of_name.ensures.value)
          (λ q ne. ap (λ ks. get_or ks q None) c.enter.ensures.slots ∙ get_or-set_other i.released.slots p q (Some key) None ne),
      c.self.invariant.1,
      c.self.invariant.2,
      beside_over i.capacity i.slots.items i.resting.items p it r.taken at.within (omega (arith, at)) refl at.beside,
    )

pub returns-clause-held : goal.returns-clause-held
returns-clause-held c =
    let i = c.self.inside in
    let p = c.args.place in
    let at = held_at_slot c.self.inside c.args.self.now _ c.self.view_is c.self.invariant p c.requires in
    let r = c.index_mut-item.result.now in
    held_same_slots (set i.slots.items p (record r { released = true })) i.index.entries c.mark.new.self.entries (ap entry_slots c.mark.ensures.entries ∙ marked_slots p i.index.entries)
    ∙ changed_seen c.self.inside c.args.self.now _ c.self.view_is c.self.invariant p r (λ (x : Item). record x { released = true }) at (get_or_read i.slots.items p r at.within c.index_mut-item.ensures.value no_item)
