use Rattle.std.proofs.Common.{◌≡◌, ◌<◌, false, List, length, map, Some, None, sym, ap, subst, ◌∙◌, arith}
use Rattle.std.specs.Prelude.{find}
use Rattle.std.specs.List.{list_any}
use Rattle.std.proofs.Math.ListN.{set}
use Rattle.sha2.specs.Sha256.{sha256}
use Rattle.tesla_early.specs.Kept.{is_of_message, use_first_kept}
use Rattle.tesla_early.specs.Ring.{IsRing, is_found, kept_at, order_of}
use Rattle.tesla_early.specs.Stands.{PromiseState}
use Rattle.tesla_early.specs.declared.promises.Slot.{Slot}
use Rattle.tesla_early.proofs.Ring.{list_within, order_distinct, order_within}
use Rattle.tesla_early.proofs.Using.{found_in_order, found_index, none_kept, none_used, one_kept, one_used, ring_marked, used_is}
use Rattle.tesla_early.proofs.promises.Promises.use_up.Goals as goal

pub find_index-requires-clause-within : goal.find_index-requires-clause-within
find_index-requires-clause-within c p there =
    let i = c.self.inside in
    subst (λ (ss : List Slot). p < length ss) (sym c.as_slice.ensures.value) (list_within i.most i.count i.next i.buckets i.slots.items c.self.invariant c.bucket-bucket.result c.bucket-bucket.ensures.within p there)

-- ---- none is found

none_passes : (c : goal.In_default) → list_any (is_of_message c.args.name (sha256 c.args.payload.now)) c.args.self.now.kept ≡ false
none_passes c =
    let i = c.self.inside in
    let hash = sha256 c.args.payload.now in
    ap (λ (s : PromiseState). list_any (is_of_message c.args.name hash) s.kept) (sym c.self.view_is)
    ∙ none_kept i.slots.items c.args.name hash (order_of i.count i.next)
    (found_in_order i.slots.items c.args.name hash i.most i.count i.next i.buckets c.as_slice.result.now c.bucket-bucket.result None c.self.invariant c.as_slice.ensures.value c.bucket-bucket.ensures.value c.bucket-bucket.ensures.within (sym c.in_default.is ∙ c.find_index.ensures))

pub returns-in_default-clause-found : goal.returns-in_default-clause-found
returns-in_default-clause-found c = sym (none_passes c)

pub returns-in_default-clause-used : goal.returns-in_default-clause-used
returns-in_default-clause-used c = sym (none_used (is_of_message c.args.name (sha256 c.args.payload.now)) c.args.self.now.kept (none_passes c))

-- ---- one is found

pub index_mut-requires : goal.index_mut-requires
index_mut-requires c =
    let i = c.self.inside in
    let hash = sha256 c.args.payload.now in
    let found = found_in_order i.slots.items c.args.name hash i.most i.count i.next i.buckets c.as_slice.result.now c.bucket-bucket.result (Some c.in-Some.place) c.self.invariant c.as_slice.ensures.value c.bucket-bucket.ensures.value c.bucket-bucket.ensures.within (sym c.in-Some.is ∙ c.find_index.ensures) in
    let below = order_within i.most i.count i.next i.buckets i.slots.items c.self.invariant c.in-Some.place (found_index i.slots.items c.args.name hash (order_of i.count i.next) c.in-Some.place found) in
    omega (arith, below, c.self.invariant.long)

found_first : (c : goal.After-self-1) → Some c.in-Some.place ≡ find (is_found c.self.inside.slots.items c.args.name (sha256 c.args.payload.now)) (order_of c.self.inside.count c.self.inside.next)
found_first c =
    let i = c.self.inside in
    found_in_order i.slots.items c.args.name (sha256 c.args.payload.now) i.most i.count i.next i.buckets c.as_slice.result.now c.bucket-bucket.result (Some c.in-Some.place) c.self.invariant
    c.as_slice.ensures.value c.bucket-bucket.ensures.value c.bucket-bucket.ensures.within (sym c.in-Some.is ∙ c.find_index.ensures)

found_within : (c : goal.After-self-1) → c.in-Some.place < length c.self.inside.slots.items
found_within c =
    let i = c.self.inside in
    let there = found_index i.slots.items c.args.name (sha256 c.args.payload.now) (order_of i.count i.next) c.in-Some.place (found_first c) in
    omega (arith, order_within i.most i.count i.next i.buckets i.slots.items c.self.invariant c.in-Some.place there, c.self.invariant.long)

pub invariant_of-self : goal.invariant_of-self
invariant_of-self c =
    let i = c.self.inside in
    subst (λ (slot : Slot). IsRing i.most i.count i.next i.buckets (set i.slots.items c.in-Some.place slot))
    (sym (used_is i.slots.items c.in-Some.place c.index_mut.result.now (found_within c) c.index_mut.ensures.value))
    (ring_marked i.slots.items c.in-Some.place (found_within c) i.most i.count i.next i.buckets c.self.invariant)

pub returns-clause-found : goal.returns-clause-found
returns-clause-found c =
    let i = c.self.inside in
    let hash = sha256 c.args.payload.now in
    sym (ap (λ (s : PromiseState). list_any (is_of_message c.args.name hash) s.kept) (sym c.self.view_is)
    ∙ one_kept i.slots.items c.args.name hash (order_of i.count i.next) c.in-Some.place (found_first c))

pub returns-clause-used : goal.returns-clause-used
returns-clause-used c =
    let i = c.self.inside in
    let hash = sha256 c.args.payload.now in
    ap (λ (slot : Slot). map (kept_at (set i.slots.items c.in-Some.place slot)) (order_of i.count i.next)) (used_is i.slots.items c.in-Some.place c.index_mut.result.now (found_within c) c.index_mut.ensures.value)
    ∙ one_used i.slots.items c.in-Some.place (found_within c) c.args.name hash (order_of i.count i.next) (order_distinct i.count i.next) (found_first c)
    ∙ ap (λ (s : PromiseState). use_first_kept (is_of_message c.args.name hash) s.kept) c.self.view_is
