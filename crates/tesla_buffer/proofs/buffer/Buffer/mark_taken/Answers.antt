use Rattle.std.proofs.Common.{cond, arith, ◌∙◌, sym, ap, subst, refl, true, Some, None}
use Rattle.std.proofs.lemmas.List.{get_or_read}
use Rattle.tesla_buffer.specs.Stored.{IsNumbered, key_of_name, no_item}
use Rattle.tesla_buffer.specs.declared.item.Item.{Item}
use Rattle.tesla_buffer.proofs.Stored.{named_live}
use Rattle.tesla_buffer.proofs.Resting.{beside_over, taken_rests}
use Rattle.tesla_buffer.proofs.Shown.{changed_seen, held_at_slot, over_keyed, over_stored}
use Rattle.tesla_buffer.proofs.buffer.Buffer.mark_taken.Goals as goal

pub index_mut-requires : goal.index_mut-requires
index_mut-requires c = omega (arith, held_at_slot c.self.inside c.args.self.now _ c.self.view_is c.self.invariant c.args.place c.requires)

pub index_mut-requires-2 : goal.index_mut-requires-2
index_mut-requires-2 c = omega (arith, held_at_slot c.self.inside c.args.self.now _ c.self.view_is c.self.invariant c.args.place c.requires)

pub invariant_of-self : goal.invariant_of-self
invariant_of-self c =
    let i = c.self.inside in
    let p = c.args.place in
    let at = held_at_slot c.self.inside c.args.self.now _ c.self.view_is c.self.invariant p c.requires in
    let r = c.index_mut.result.now in
    let it : Item = record r { taken = true } in
    let read = get_or_read i.slots.items p r at.within c.index_mut.ensures.value no_item in
    let name = ap (λ (x : Item). x.name) read in (
      over_stored i p it i.index i.released.slots at name refl refl (over_keyed i p it i.index i.released.slots at name (ap (λ (x : Item). x.released) read))
          (subst IsNumbered (sym read) (at.stored.small p)) refl
          (named_live i.capacity i.slots.items i.free.items i.index i.released.slots p at.stored at.live ∙ ap (λ (x : Item). cond x.released (Some (key_of_name x.name)) None) (sym read)) (λ q ne. refl),
      c.self.invariant.1,
      c.self.invariant.2,
      beside_over i.capacity i.slots.items i.resting.items p it true at.within (omega (arith, at)) (taken_rests it refl) at.beside,
    )

pub returns-clause-held : goal.returns-clause-held
returns-clause-held c =
    let at = held_at_slot c.self.inside c.args.self.now _ c.self.view_is c.self.invariant c.args.place c.requires in
    changed_seen c.self.inside c.args.self.now _ c.self.view_is c.self.invariant c.args.place c.index_mut.result.now (λ (x : Item). record x { taken = true }) at
    (get_or_read c.self.inside.slots.items c.args.place c.index_mut.result.now at.within c.index_mut.ensures.value no_item)
