-- A buffer as a caller sees it: where a packet is held, and what a packet that is put at a vacant slot leaves.
use Rattle.std.proofs.Common.{◌≡◌, ℕ, ◌<◌, ◌≤◌, true, false, List, [], ◌∷◌, ◌++◌, length, get_or, map, Some, None, Option, cond, ap, ◌∙◌}
use Rattle.std.specs.List.{filter, list_any}
use Rattle.std.specs.Vec.{vec_capacity}
use Rattle.std.proofs.Math.ListN.{set}
use Rattle.std.proofs.lemmas.List.{get_or-set_other, get_or-set_same, length-set}
use Rattle.tesla_base.specs.Members.{is_in}
use Rattle.tesla_buffer.specs.Held.{Holding, changed, first_slot, is_live, is_of, is_unreleased_of, next_slot, next_unreleased}
use Rattle.tesla_buffer.specs.Stored.{IsBeside, IsNumbered, IsStored, Keyed, held_at, item_at, key_of_name, no_item, entry_slots}
use Rattle.tesla_buffer.specs.declared.buffer.Buffer.TheInside.{Inside}
use Rattle.tesla_buffer.specs.declared.item.Item.{Item}
use Rattle.tesla_links.specs.Entries.{Entries}
use Rattle.tesla_links.specs.Entries.{first_slot as first_entry, is_at as entry_at, is_under, is_unmarked_under, marked_at, next_slot as next_entry, next_unmarked}
use Rattle.tesla_buffer.proofs.Stored.{Chosen, IsVacant, first_seen, first_unreleased_seen, held_put, keyed_released, keyed_same, live_seen, next_seen, next_unreleased_seen, seen_capacity, seen_held, seen_live, stored_marked, stored_put, vacant_seen}
use Rattle.tesla_buffer.proofs.HeldSlots.{entry_is, held_changed, to_slot}

-- what the fields say to a caller
abbrev pub Shows : Inside → Holding → ℕ → Type 0
Shows f seen room = ◌≡◌ {A = Holding} (record { capacity = f.capacity; held = map (held_at f.slots.items) f.index.entries; reserved = room }) seen

-- what they keep
abbrev pub IsKept : Inside → Type 0
IsKept f = IsStored f.capacity f.slots.items f.free.items f.index f.released.slots × (f.capacity ≤ vec_capacity f.slots) × (f.capacity ≤ vec_capacity f.free) × IsBeside f.capacity f.slots.items f.resting.items

-- a packet is held at a slot
pub record IsHeldAt (f : Inside) (p : ℕ) : Type 0 where
  pub stored : IsStored f.capacity f.slots.items f.free.items f.index f.released.slots
  pub beside : IsBeside f.capacity f.slots.items f.resting.items
  pub live : is_in p (entry_slots f.index.entries) ≡ true
  pub entry : list_any (entry_at p) f.index.entries ≡ true
  pub within : p < length f.slots.items

-- a slot is one for a packet
abbrev pub IsFree : Inside → List Item → List ℕ → ℕ → Type 0
IsFree f slots free p = IsVacant f.capacity f.slots.items slots free f.index.entries p

-- the slot and the entries once a packet was put at a vacant place
pub record IsPut (f : Inside) (slots : List Item) (free : List ℕ) (index' : Entries) (p : ℕ) (it : Item) : Type 0 where
  pub stored : IsStored f.capacity f.slots.items f.free.items f.index f.released.slots
  pub vacant : IsFree f slots free p
  pub entries : index'.entries ≡ f.index.entries ++ record { key = it.name.interval; place = p; marked = it.released } ∷ []

module _ (f : Inside) (slots : List Item) (free : List ℕ) (index' : Entries) (p : ℕ) (it : Item) (put : IsPut f slots free index' p it) where
  here : item_at (set slots p it) p ≡ it
  here = get_or-set_same slots p it no_item put.vacant.inside

  others : (q : ℕ) → (q ≡ p → ⊥) → item_at (set slots p it) q ≡ item_at slots q
  others q ne = get_or-set_other slots p q it no_item ne

  pub put_stored : (released' : List (Option ℕ)) → index'.capacity ≡ f.index.capacity → IsNumbered it → length released' ≡ length f.released.slots
      → get_or released' p None ≡ cond it.released (Some (key_of_name it.name)) None → ((q : ℕ) → (q ≡ p → ⊥) → get_or released' q None ≡ get_or f.released.slots q None)
      → IsStored f.capacity (set slots p it) free index' released'
  put_stored released' =
      stored_put f.capacity f.slots.items slots (set slots p it) f.free.items free f.index index' f.released.slots released' p it put.stored put.vacant (length-set slots p it) here others put.entries

  pub put_held : (seen : Holding) (room : ℕ) → Shows f seen room → map (held_at (set slots p it)) index'.entries ≡ seen.held ++ record { place = p; item = it } ∷ []
  put_held seen room view =
      held_put f.capacity f.slots.items slots (set slots p it) f.free.items free f.index index' f.released.slots f.released.slots p it put.stored put.vacant (length-set slots p it) here others put.entries
      ∙ ap (λ hs. hs ++ record { place = p; item = it } ∷ []) (seen_held f.capacity f.slots.items f.index seen view)

-- an item over the one at a slot, with its name
module _ (f : Inside) (p : ℕ) (it : Item) (index' : Entries) (released' : List (Option ℕ)) (at : IsHeldAt f p) (name : it.name ≡ (item_at f.slots.items p).name) where
  over_here : item_at (set f.slots.items p it) p ≡ it
  over_here = get_or-set_same f.slots.items p it no_item at.within

  over_others : (q : ℕ) → (q ≡ p → ⊥) → item_at (set f.slots.items p it) q ≡ item_at f.slots.items q
  over_others q ne = get_or-set_other f.slots.items p q it no_item ne

  pub over_stored : entry_slots index'.entries ≡ entry_slots f.index.entries → index'.capacity ≡ f.index.capacity → Keyed (set f.slots.items p it) index'.entries → IsNumbered it → length released' ≡ length f.released.slots
      → get_or released' p None ≡ cond it.released (Some (key_of_name it.name)) None → ((q : ℕ) → (q ≡ p → ⊥) → get_or released' q None ≡ get_or f.released.slots q None)
      → IsStored f.capacity (set f.slots.items p it) f.free.items index' released'
  over_stored = stored_marked f.capacity f.slots.items (set f.slots.items p it) f.free.items f.index index' f.released.slots released' p it at.stored at.live (length-set f.slots.items p it) over_here over_others name

  pub over_keyed : it.released ≡ (item_at f.slots.items p).released → Keyed (set f.slots.items p it) f.index.entries
  over_keyed = keyed_same f.capacity f.slots.items (set f.slots.items p it) f.free.items f.index index' f.released.slots released' p it at.stored at.live (length-set f.slots.items p it) over_here over_others name

  pub over_released : it.released ≡ true → index'.entries ≡ marked_at p f.index.entries → Keyed (set f.slots.items p it) index'.entries
  over_released = keyed_released f.capacity f.slots.items (set f.slots.items p it) f.free.items f.index index' f.released.slots released' p it at.stored at.live (length-set f.slots.items p it) over_here over_others name

module _ (f : Inside) (seen : Holding) (room : ℕ) (view : Shows f seen room) (k : IsKept f) where
  pub held_seen : map (held_at f.slots.items) f.index.entries ≡ seen.held
  held_seen = seen_held f.capacity f.slots.items f.index seen view

  pub capacity_seen : f.capacity ≡ seen.capacity
  capacity_seen = seen_capacity f.capacity f.slots.items f.index seen view

  pub held_at_slot : (p : ℕ) → is_live p seen.held ≡ true → IsHeldAt f p
  held_at_slot p live =
      let there = live_seen f.capacity f.slots.items f.index seen view p live in
      record { stored = k.0; beside = k.3; live = there; entry = entry_is p f.index.entries ∙ there; within = k.0.live p there }

  -- where there is room, the slot that was chosen is one for a packet
  pub vacant_for : (slots : List Item) (free : List ℕ) (p : ℕ) (empty : Item) → length seen.held < seen.capacity → Chosen f.slots.items slots f.free.items free p empty → empty.released ≡ false
      → IsFree f slots free p
  vacant_for slots free p empty room c none = vacant_seen f.capacity f.slots.items f.index seen view slots f.free.items free f.released.slots p empty k.0 room c none

  pub vacant_live : (slots : List Item) (free : List ℕ) (p : ℕ) → IsFree f slots free p → is_live p seen.held ≡ false
  vacant_live slots free p v = seen_live f.capacity f.slots.items f.index seen view p ∙ v.absent

  -- an item that is changed at its slot
  pub changed_seen : (p : ℕ) (r : Item) (change : Item → Item) → IsHeldAt f p → r ≡ item_at f.slots.items p → map (held_at (set f.slots.items p (change r))) f.index.entries ≡ changed p change seen.held
  changed_seen p r change at read =
      held_changed f.slots.items (set f.slots.items p (change r)) p change f.index.entries
      (get_or-set_same f.slots.items p (change r) no_item at.within ∙ ap change read) (λ q ne. get_or-set_other f.slots.items p q (change r) no_item ne)
      ∙ ap (changed p change) held_seen

  -- what the index finds
  pub first_at : (i k : ℕ) (o : Option ℕ) → k ≡ i → o ≡ first_entry (filter (is_under k) f.index.entries) → to_slot o ≡ first_slot (filter (is_of i) seen.held)
  first_at = first_seen f.capacity f.slots.items f.index seen view k.0.keyed

  pub first_unreleased_at : (i k : ℕ) (o : Option ℕ) → k ≡ i → o ≡ first_entry (filter (is_unmarked_under k) f.index.entries) → to_slot o ≡ first_slot (filter (is_unreleased_of i) seen.held)
  first_unreleased_at = first_unreleased_seen f.capacity f.slots.items f.index seen view k.0.keyed

  pub next_at : (p : ℕ) (o : Option ℕ) → o ≡ next_entry p f.index.entries → to_slot o ≡ next_slot p seen.held
  next_at = next_seen f.capacity f.slots.items f.index seen view k.0.keyed

  pub next_unreleased_at : (p : ℕ) (o : Option ℕ) → o ≡ next_unmarked p f.index.entries → to_slot o ≡ next_unreleased p seen.held
  next_unreleased_at = next_unreleased_seen f.capacity f.slots.items f.index seen view k.0.keyed
