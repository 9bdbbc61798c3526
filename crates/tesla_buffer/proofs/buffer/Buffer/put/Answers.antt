use Rattle.std.proofs.Common.{◌≤◌, false, [], ◌∷◌, ◌++◌, length, get_or, arith, ◌∙◌, sym, ap, refl, Some, None}
use Rattle.std.specs.List.{list_any}
use Rattle.std.specs.Vec.{vec_capacity}
use Rattle.std.proofs.Math.ListN.{set}
use Rattle.std.proofs.lemmas.Bool.{cond-false, cond-true, false≢true}
use Rattle.std.proofs.lemmas.List.{get_or-set_other, get_or-set_same, length-set}
use Rattle.tesla_buffer.specs.Stored.{IsBeside, key_of_name}
use Rattle.tesla_buffer.specs.declared.parts.TheConstants.{EMPTY}
use Rattle.tesla_links.specs.Entries.{is_at as entry_at, marked_at}
use Rattle.tesla_buffer.proofs.Stored.{unnamed_vacant}
use Rattle.tesla_buffer.proofs.Resting.{beside_put}
use Rattle.tesla_buffer.proofs.HeldSlots.{entry_is, marked_pushed, pushed_there}
use Rattle.tesla_buffer.proofs.Shown.{IsFree, IsPut, put_held, put_stored, vacant_for, vacant_live}
use Rattle.tesla_buffer.proofs.buffer.Buffer.put.Goals.{After-append, After-mark, After-vacant_slot-place, Else-item}
use Rattle.tesla_buffer.proofs.buffer.Buffer.put.Goals as goal

-- the slot is one for a packet
vacant : (c : After-vacant_slot-place) → IsFree c.self.inside c.vacant_slot-place.new.slots.items c.vacant_slot-place.new.free.items c.vacant_slot-place.result
vacant c = vacant_for c.self.inside c.args.self.now _ c.self.view_is c.self.invariant _ _ _ EMPTY c.requires c.vacant_slot-place.ensures.slot refl

-- the packet is there, marked where it was released
put_marked : (c : After-mark) → IsFree c.self.inside c.vacant_slot-place.new.slots.items c.vacant_slot-place.new.free.items c.vacant_slot-place.result
    → IsPut c.self.inside c.vacant_slot-place.new.slots.items c.vacant_slot-place.new.free.items c.mark.new.self c.vacant_slot-place.result c.args.item.now
put_marked c v =
    let es = c.self.inside.index.entries in
    let p = c.vacant_slot-place.result in
    let key = c.args.item.now.name.interval in
    record {
      stored = c.self.invariant.0;
      vacant = v;
      entries = c.mark.ensures.entries ∙ ap (marked_at p) (c.append.ensures.entries ∙ ap (λ k. es ++ record { key = k; place = p; marked = false } ∷ []) c.from.ensures)
          ∙ marked_pushed key p es v.absent ∙ ap (λ b. es ++ record { key = key; place = p; marked = b } ∷ []) (sym c.if-item.true);
    }

put_unmarked : (c : Else-item) → IsFree c.self.inside c.vacant_slot-place.new.slots.items c.vacant_slot-place.new.free.items c.vacant_slot-place.result
    → IsPut c.self.inside c.vacant_slot-place.new.slots.items c.vacant_slot-place.new.free.items c.append.new.self c.vacant_slot-place.result c.args.item.now
put_unmarked c v =
    let es = c.self.inside.index.entries in
    let p = c.vacant_slot-place.result in
    record {
      stored = c.self.invariant.0;
      vacant = v;
      entries = c.append.ensures.entries ∙ ap (λ k. es ++ record { key = k; place = p; marked = false } ∷ []) c.from.ensures ∙ ap (λ b. es ++ record { key = c.args.item.now.name.interval; place = p; marked = b } ∷ []) (sym c.if-item.false);
    }

-- the room, and what stands beside the slots
rooms : (c : After-append) → IsFree c.self.inside c.vacant_slot-place.new.slots.items c.vacant_slot-place.new.free.items c.vacant_slot-place.result
    → (c.self.inside.capacity ≤ vec_capacity c.vacant_slot-place.new.slots) × (c.self.inside.capacity ≤ vec_capacity c.vacant_slot-place.new.free)
    × IsBeside c.self.inside.capacity (set c.vacant_slot-place.new.slots.items c.vacant_slot-place.result c.args.item.now) (set c.self.inside.resting.items c.vacant_slot-place.result c.rests.result)
rooms c v =
    let i = c.self.inside in
    let p = c.vacant_slot-place.result in (
      omega (arith, c.self.invariant.1, c.vacant_slot-place.ensures.slots_capacity),
      omega (arith, c.self.invariant.2, c.vacant_slot-place.ensures.free_capacity),
      beside_put i.capacity i.slots.items c.vacant_slot-place.new.slots.items i.free.items c.vacant_slot-place.new.free.items i.resting.items p EMPTY c.args.item.now c.rests.result c.vacant_slot-place.ensures.slot v.inside (omega (arith, v.inside, v.most)) c.rests.ensures c.self.invariant.3,
    )

pub index_mut-requires : goal.index_mut-requires
index_mut-requires c = omega (arith, vacant (goal.at.index_mut-requires c).After-vacant_slot-place)

pub append-requires-clause-absent : goal.append-requires-clause-absent
append-requires-clause-absent c = entry_is c.vacant_slot-place.result c.self.inside.index.entries ∙ (vacant (goal.at.append-requires-clause-absent c).After-vacant_slot-place).absent

pub mark-requires : goal.mark-requires
mark-requires c =
    let p = c.vacant_slot-place.result in
    ap (list_any (entry_at p)) c.append.ensures.entries ∙ pushed_there c.from.result p false c.self.inside.index.entries

pub invariant_of-self : goal.invariant_of-self
invariant_of-self c =
    let at = goal.at.invariant_of-self c in
    let v = vacant at.After-vacant_slot-place in
    let r = rooms at.After-append v in
    let names = c.self.inside.released.slots in
    let p = c.vacant_slot-place.result in
    let it = c.args.item.now in
    let key = c.key_of_name.result in (
      put_stored _ _ _ _ _ _ (put_marked at.After-mark v) c.enter.new.self.slots (c.mark.ensures.capacity ∙ c.append.ensures.capacity) (λ _. c.key_of_name.ensures.number) (ap length c.enter.ensures.slots ∙ length-set names p (Some key))
          (ap (λ ks. get_or ks p None) c.enter.ensures.slots ∙ get_or-set_same names p (Some key) None (omega (arith, v, c.self.invariant.0.names)) ∙ ap Some c.key_of_name.ensures.value
          ∙ sym (cond-true it.released (Some (key_of_name it.name)) None c.if-item.true))
          (λ q ne. ap (λ ks. get_or ks q None) c.enter.ensures.slots ∙ get_or-set_other names p q (Some key) None ne),
      r.0,
      r.1,
      r.2,
    )

pub invariant_of-self-else-item : goal.invariant_of-self-else-item
invariant_of-self-else-item c =
    let at = goal.at.invariant_of-self-else-item c in
    let v = vacant at.After-vacant_slot-place in
    let r = rooms at.After-append v in
    let i = c.self.inside in
    let it = c.args.item.now in (
      put_stored _ _ _ _ _ _ (put_unmarked at.Else-item v) i.released.slots c.append.ensures.capacity (λ e. absurd (false≢true (sym c.if-item.false ∙ e))) refl
          (unnamed_vacant i.capacity i.slots.items i.free.items i.index i.released.slots c.vacant_slot-place.result c.self.invariant.0 v.absent ∙ sym (cond-false it.released (Some (key_of_name it.name)) None c.if-item.false))
          (λ q ne. refl),
      r.0,
      r.1,
      r.2,
    )

pub returns-then-item-clause-held : goal.returns-then-item-clause-held
returns-then-item-clause-held c =
    let at = goal.at.returns-then-item-clause-held c in
    put_held _ _ _ _ _ _ (put_marked at.After-mark (vacant at.After-vacant_slot-place)) c.args.self.now _ c.self.view_is

pub returns-then-item-clause-vacant : goal.returns-then-item-clause-vacant
returns-then-item-clause-vacant c = vacant_live c.self.inside c.args.self.now _ c.self.view_is c.self.invariant _ _ _ (vacant (goal.at.returns-then-item-clause-vacant c).After-vacant_slot-place)

pub returns-else-item-clause-held : goal.returns-else-item-clause-held
returns-else-item-clause-held c =
    let at = goal.at.returns-else-item-clause-held c in
    put_held _ _ _ _ _ _ (put_unmarked at.Else-item (vacant at.After-vacant_slot-place)) c.args.self.now _ c.self.view_is

pub returns-else-item-clause-vacant : goal.returns-else-item-clause-vacant
returns-else-item-clause-vacant c = vacant_live c.self.inside c.args.self.now _ c.self.view_is c.self.invariant _ _ _ (vacant (goal.at.returns-else-item-clause-vacant c).After-vacant_slot-place)
