use Rattle.std.proofs.Common.{◌++◌, ◌∷◌, [], ℕ, false, get_or, map, sym, ap, subst, ◌∙◌}
use Rattle.std.proofs.Math.ListN.{set}
use Rattle.tesla_early.specs.Learnt.{last_of}
use Rattle.tesla_early.specs.Ring.{IsRing, count_after, kept_at, order_of}
use Rattle.tesla_early.specs.Stands.{PromiseState}
use Rattle.tesla_early.specs.declared.promises.Slot.{Slot}
use Rattle.tesla_early.proofs.Ring.{HasRoom, has_room, kept_put, next_nowhere, oldest_there, ring_put}
use Rattle.tesla_early.proofs.promises.Promises.learn.Goals.{After-make_room}
use Rattle.tesla_early.proofs.promises.Promises.learn.Goals as goal

-- there is room for the next promise
room : (c : After-make_room) → HasRoom c.self.inside.most c.self.inside.count c.self.inside.next c.self.inside.slots.items c.make_room.new.buckets.lists
room c =
    let i = c.self.inside in
    subst (HasRoom i.most i.count i.next i.slots.items) (sym c.make_room.ensures.lists) (has_room i.most i.count i.next i.buckets i.slots.items c.self.invariant)

pub make_room-requires : goal.make_room-requires
make_room-requires c full =
    let i = c.self.inside in
    oldest_there i.most i.count i.next i.buckets i.slots.items c.self.invariant full

pub append-requires-clause-nowhere : goal.append-requires-clause-nowhere
append-requires-clause-nowhere c =
    let i = c.self.inside in
    next_nowhere i.most i.count i.next i.slots.items c.make_room.new.buckets.lists (room (goal.at.append-requires-clause-nowhere c).After-make_room)

pub invariant_of-self : goal.invariant_of-self
invariant_of-self c =
    let i = c.self.inside in
    let slot : Slot = record { promise = c.args.promise.now; used = false } in
    let lists = c.make_room.new.buckets.lists in
    let h = room (goal.at.invariant_of-self c).After-make_room in
    subst (λ (n : ℕ). IsRing i.most n c.index_after-self-inside.result c.append.new.self (set i.slots.items i.next slot)) (sym c.count_after-self-inside.ensures)
    (subst (λ (n : ℕ). IsRing i.most (count_after i.most i.count) n c.append.new.self (set i.slots.items i.next slot)) (sym c.index_after-self-inside.ensures)
    (ring_put i.most i.count i.next i.buckets c.append.new.self lists i.slots.items slot c.self.invariant h
    (c.append.ensures.slot_count ∙ c.make_room.ensures.slot_count)
    (c.append.ensures.lists ∙ ap (λ b. set lists b (get_or lists b [] ++ i.next ∷ [])) c.bucket.ensures.value)))

pub returns-clause-kept : goal.returns-clause-kept
returns-clause-kept c =
    let i = c.self.inside in
    let slot : Slot = record { promise = c.args.promise.now; used = false } in
    let lists = c.make_room.new.buckets.lists in
    let h = room (goal.at.returns-clause-kept c).After-make_room in
    ap (λ (n : ℕ). map (kept_at (set i.slots.items i.next slot)) (order_of n c.index_after-self-inside.result)) c.count_after-self-inside.ensures
    ∙ ap (λ (n : ℕ). map (kept_at (set i.slots.items i.next slot)) (order_of (count_after i.most i.count) n)) c.index_after-self-inside.ensures
    ∙ kept_put i.most i.count i.next i.buckets c.append.new.self lists i.slots.items slot c.self.invariant h
    (c.append.ensures.slot_count ∙ c.make_room.ensures.slot_count)
    (c.append.ensures.lists ∙ ap (λ b. set lists b (get_or lists b [] ++ i.next ∷ [])) c.bucket.ensures.value)
    ∙ ap (λ (s : PromiseState). last_of s.most (s.kept ++ record { promise = c.args.promise.now; used = false } ∷ [])) c.self.view_is
