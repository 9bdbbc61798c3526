use Rattle.std.proofs.Common.{true, false, [], ◌∷◌, ◌++◌, arith, ◌∙◌, sym, ap, refl, Some, None}
use Rattle.std.proofs.lemmas.Bool.{cond-false, false≢true}
use Rattle.tesla_base.specs.declared.names.Name.{Name}
use Rattle.tesla_buffer.specs.Stored.{key_of_name}
use Rattle.tesla_buffer.specs.declared.parts.TheConstants.{EMPTY}
use Rattle.tesla_buffer.proofs.Stored.{unnamed_vacant}
use Rattle.tesla_buffer.proofs.Resting.{beside_put, unreleased_rests}
use Rattle.tesla_buffer.proofs.HeldSlots.{entry_is}
use Rattle.tesla_buffer.proofs.Shown.{IsFree, IsPut, put_held, put_stored, vacant_for, vacant_live}
use Rattle.tesla_buffer.proofs.buffer.Buffer.put_frame.Goals.{After-append, After-vacant_slot-place}
use Rattle.tesla_buffer.proofs.buffer.Buffer.put_frame.Goals as goal

-- the slot is one for a packet
vacant : (c : After-vacant_slot-place) → IsFree c.self.inside c.vacant_slot-place.new.slots.items c.vacant_slot-place.new.free.items c.vacant_slot-place.result
vacant c = vacant_for c.self.inside c.args.self.now _ c.self.view_is c.self.invariant _ _ _ EMPTY c.requires c.vacant_slot-place.ensures.slot refl

-- the packet is there
put : (c : After-append) → IsPut c.self.inside c.vacant_slot-place.new.slots.items c.vacant_slot-place.new.free.items c.append.new.self c.vacant_slot-place.result c.write_parts.new.item
put c =
    let es = c.self.inside.index.entries in
    let p = c.vacant_slot-place.result in
    let it = c.write_parts.new.item in
    record {
      stored = c.self.invariant.0;
      vacant = vacant_for c.self.inside c.args.self.now _ c.self.view_is c.self.invariant _ _ _ EMPTY c.requires c.vacant_slot-place.ensures.slot refl;
      entries = c.append.ensures.entries ∙ ap (λ k. es ++ record { key = k; place = p; marked = false } ∷ []) (c.from.ensures ∙ ap (λ (n : Name). n.interval) (c.name.ensures ∙ sym c.write_parts.ensures.made.name))
          ∙ ap (λ b. es ++ record { key = it.name.interval; place = p; marked = b } ∷ []) (sym c.write_parts.ensures.made.released);
    }

pub index_mut-requires : goal.index_mut-requires
index_mut-requires c = omega (arith, vacant (goal.at.index_mut-requires c).After-vacant_slot-place)

pub append-requires-clause-absent : goal.append-requires-clause-absent
append-requires-clause-absent c = entry_is c.vacant_slot-place.result c.self.inside.index.entries ∙ (vacant (goal.at.append-requires-clause-absent c).After-vacant_slot-place).absent

pub invariant_of-self : goal.invariant_of-self
invariant_of-self c =
    let i = c.self.inside in
    let there = put (goal.at.invariant_of-self c).After-append in
    let v = there.vacant in
    let it = c.write_parts.new.item in
    let none = c.write_parts.ensures.made.released in (
      put_stored _ _ _ _ _ _ there i.released.slots c.append.ensures.capacity (λ e. absurd (false≢true (sym none ∙ e))) refl
          (unnamed_vacant i.capacity i.slots.items i.free.items i.index i.released.slots c.vacant_slot-place.result c.self.invariant.0 v.absent ∙ sym (cond-false it.released (Some (key_of_name it.name)) None none))
          (λ q ne. refl),
      omega (arith, c.self.invariant.1, c.vacant_slot-place.ensures.slots_capacity),
      omega (arith, c.self.invariant.2, c.vacant_slot-place.ensures.free_capacity),
      beside_put i.capacity i.slots.items c.vacant_slot-place.new.slots.items i.free.items c.vacant_slot-place.new.free.items i.resting.items c.vacant_slot-place.result EMPTY it true c.vacant_slot-place.ensures.slot v.inside (omega (arith, v.inside, v.most)) (unreleased_rests it none) c.self.invariant.3,
    )

pub returns-clause-held : goal.returns-clause-held
returns-clause-held c = (c.write_parts.new.item, c.write_parts.ensures.made, put_held _ _ _ _ _ _ (put (goal.at.returns-clause-held c).After-append) c.args.self.now _ c.self.view_is)

pub returns-clause-vacant : goal.returns-clause-vacant
returns-clause-vacant c = vacant_live c.self.inside c.args.self.now _ c.self.view_is c.self.invariant _ _ _ (vacant (goal.at.returns-clause-vacant c).After-vacant_slot-place)
