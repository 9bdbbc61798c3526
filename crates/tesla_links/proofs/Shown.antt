-- An index as a caller sees it: where the entry of a slot stands, and which entries a key has.
use Rattle.std.proofs.Common.{◌≡◌, ℕ, ◌<◌, true, false, not, List, [], ◌∷◌, ◌++◌, length, get_or, map, Some, None, Option, sym, ap, ◌∙◌, arith}
use Rattle.std.specs.List.{filter, list_any}
use Rattle.std.specs.Prelude.{slice_get}
use Rattle.std.proofs.Math.ListN.{set}
use Rattle.std.proofs.lemmas.List.{get_or_read}
use Rattle.std.proofs.lemmas.Option.{get_or_from_slice_get}
use Rattle.tesla_base.specs.Members.{is_in, next_in, without}
use Rattle.tesla_base.proofs.Members.{somewhere}
use Rattle.tesla_links.specs.Entries.{Entries, Entry, is_at, is_under, is_unmarked_at, is_unmarked_under, next_slot, next_unmarked}
use Rattle.tesla_links.specs.Indexed.{IsIndexed, IsMarked, entries_of, entry_of, group_of, is_marked}
use Rattle.tesla_links.specs.Lists.{Lists, list_of}
use Rattle.tesla_links.specs.Slots.{has_key}
use Rattle.tesla_links.specs.declared.index.Index.TheInside.{Inside}
use Rattle.tesla_links.proofs.Grouped.{MayHave, append_entries, append_indexed, append_marked, chosen_within, group_within, in_group, in_no_group, in_unmarked, marked_nowhere, marked_somewhere, next_is, one_list, remove_kept, remove_last, remove_marked, seen_at, seen_capacity, seen_entries, seen_unmarked, under_key, under_none, unmarked_key, unmarked_next_is, unmarked_none}

-- what the fields say to a caller
abbrev pub Shows : Inside → Entries → ℕ → Type 0
Shows f seen room = ◌≡◌ {A = Entries} (record { capacity = f.capacity; entries = entries_of f.order f.keys.slots f.groups.items (is_marked f.capacity f.unmarked); reserved = room }) seen

-- what they keep
abbrev pub IsKept : Inside → Type 0
IsKept f = IsIndexed f.capacity f.order f.members f.groups.items f.keys.slots × IsMarked f.capacity f.order f.members f.unmarked

-- the entry of a slot, as it is read off the fields
abbrev pub entry_at : Inside → ℕ → Entry
entry_at f = entry_of f.keys.slots f.groups.items (is_marked f.capacity f.unmarked)

-- a slot has an entry
pub record IsListed (f : Inside) (p : ℕ) : Type 0 where
  pub kept : IsKept f
  pub listed : is_in p (list_of f.order 0) ≡ true
  pub below : p < f.capacity
  pub group_below : group_of f.groups.items p < f.capacity
  pub in_order : list_any (is_in p) f.order.lists ≡ true
  pub in_members : list_any (is_in p) f.members.lists ≡ true
  pub in_unmarked : list_any (is_in p) f.unmarked.lists ≡ true

listed_in : (f : Inside) (p : ℕ) → IsKept f → is_in p (list_of f.order 0) ≡ true → IsListed f p
listed_in f p k listed =
    let own = k.0.within p listed in
    record {
      kept = k;
      listed = listed;
      below = own.0;
      group_below = own.1;
      in_order = one_list p f.order.lists k.0.one ∙ listed;
      in_members = somewhere p f.members.lists (group_of f.groups.items p) (in_group f.capacity f.order f.members f.groups.items f.keys.slots k.0 p listed);
      in_unmarked = marked_somewhere f.capacity f.order f.members f.groups.items f.keys.slots k.0 f.unmarked k.1 p listed;
    }

-- the group of a slot that has an entry, as it is read
pub record HasGroup (f : Inside) (p g : ℕ) : Type 0 where
  pub entry : IsListed f p
  pub own : g ≡ group_of f.groups.items p

pub group_read : (f : Inside) (p g : ℕ) → IsListed f p → g ≡ get_or f.groups.items p g → HasGroup f p g
group_read f p g l e = record { entry = l; own = get_or_read f.groups.items p g (omega arith) e 0 }

-- a slot has none
pub record IsAbsent (f : Inside) (p : ℕ) : Type 0 where
  pub kept : IsKept f
  pub absent : is_in p (list_of f.order 0) ≡ false
  pub below : p < f.capacity
  pub not_in_order : list_any (is_in p) f.order.lists ≡ false
  pub not_in_members : list_any (is_in p) f.members.lists ≡ false
  pub not_in_unmarked : list_any (is_in p) f.unmarked.lists ≡ false

-- the group that its entry gets is one of the groups
pub group_chosen : (f : Inside) (p g key : ℕ) → IsAbsent f p → MayHave f.keys.slots g key → g < f.capacity
group_chosen f p g key a may = chosen_within f.capacity f.order f.members f.order f.members f.groups.items f.keys.slots p g key a.kept.0 a.below a.absent may

-- the group of a key that has entries, and these
pub record HasEntries (f : Inside) (seen : Entries) (g key : ℕ) : Type 0 where
  pub below : g < f.capacity
  pub under : filter (is_under key) seen.entries ≡ map (entry_at f) (list_of f.members g)
  pub unmarked : filter (is_unmarked_under key) seen.entries ≡ map (entry_at f) (list_of f.unmarked g)

module _ (f : Inside) (seen : Entries) (room : ℕ) (view : Shows f seen room) (k : IsKept f) where
  pub shown : seen.entries ≡ map (entry_at f) (list_of f.order 0)
  shown = seen_entries f.capacity f.order f.unmarked f.groups.items f.keys.slots seen view

  pub listed_at : (p : ℕ) → list_any (is_at p) seen.entries ≡ true → IsListed f p
  listed_at p i = listed_in f p k (sym (seen_at f.capacity f.order f.unmarked f.groups.items f.keys.slots seen view p) ∙ i)

  pub unmarked_at : (p : ℕ) → list_any (is_unmarked_at p) seen.entries ≡ true → IsListed f p × (is_marked f.capacity f.unmarked p ≡ false)
  unmarked_at p i =
      let both = seen_unmarked f.capacity f.order f.unmarked f.groups.items f.keys.slots seen view p i in
      (listed_in f p k both.0, both.1)

  pub absent_at : (p : ℕ) → p < seen.capacity → list_any (is_at p) seen.entries ≡ false → IsAbsent f p
  absent_at p below i =
      let none : is_in p (list_of f.order 0) ≡ false = sym (seen_at f.capacity f.order f.unmarked f.groups.items f.keys.slots seen view p) ∙ i in
      record {
        kept = k;
        absent = none;
        below = omega (arith, seen_capacity f.capacity f.order f.unmarked f.groups.items f.keys.slots seen view);
        not_in_order = one_list p f.order.lists k.0.one ∙ none;
        not_in_members = in_no_group f.capacity f.order f.members f.groups.items f.keys.slots k.0 p none;
        not_in_unmarked = marked_nowhere f.capacity f.order f.members f.groups.items f.keys.slots k.0 f.unmarked k.1 p none;
      }

  pub has_entries : (g key : ℕ) → slice_get f.keys.slots g ≡ Some (Some key) → HasEntries f seen g key
  has_entries g key e =
      let slot = get_or_from_slice_get f.keys.slots g (Some key) None e in
      record {
        below = group_within f.capacity f.order f.members f.groups.items f.keys.slots k.0 g key slot;
        under = ap (filter (is_under key)) shown ∙ under_key f.capacity f.order f.members f.groups.items f.keys.slots k.0 (is_marked f.capacity f.unmarked) g key slot;
        unmarked = ap (filter (is_unmarked_under key)) shown ∙ unmarked_key f.capacity f.order f.members f.groups.items f.keys.slots k.0 f.unmarked k.1 g key slot;
      }

  -- a key that no group has has no entry
  pub has_none : (key : ℕ) → list_any (has_key key) f.keys.slots ≡ false → (filter (is_under key) seen.entries ≡ []) × (filter (is_unmarked_under key) seen.entries ≡ [])
  has_none key none = (
    ap (filter (is_under key)) shown ∙ under_none f.capacity f.order f.members f.groups.items f.keys.slots k.0 (is_marked f.capacity f.unmarked) key none,
    ap (filter (is_unmarked_under key)) shown ∙ unmarked_none f.capacity f.order f.members f.groups.items f.keys.slots k.0 f.unmarked k.1 key none,
  )

  -- the slot behind another in its group is that of the next entry with its key
  pub next_at : (p g : ℕ) → HasGroup f p g → (is_in p (list_of f.members g) ≡ true) × (next_in p (list_of f.members g) ≡ next_slot p seen.entries)
  next_at p g own = (
    ap (λ j. is_in p (list_of f.members j)) own.own ∙ in_group f.capacity f.order f.members f.groups.items f.keys.slots k.0 p own.entry.listed,
    ap (λ j. next_in p (list_of f.members j)) own.own ∙ next_is f.capacity f.order f.members f.groups.items f.keys.slots k.0 (is_marked f.capacity f.unmarked) p own.entry.listed ∙ ap (next_slot p) (sym shown),
  )

  pub next_unmarked_at : (p g : ℕ) → HasGroup f p g → is_marked f.capacity f.unmarked p ≡ false → (is_in p (list_of f.unmarked g) ≡ true) × (next_in p (list_of f.unmarked g) ≡ next_unmarked p seen.entries)
  next_unmarked_at p g own none = (
    ap (λ j. is_in p (list_of f.unmarked j)) own.own ∙ in_unmarked f.capacity f.order f.members f.groups.items f.keys.slots k.0 f.unmarked k.1 p own.entry.listed none,
    ap (λ j. next_in p (list_of f.unmarked j)) own.own ∙ unmarked_next_is f.capacity f.order f.members f.groups.items f.keys.slots k.0 f.unmarked k.1 p own.entry.listed none ∙ ap (next_unmarked p) (sym shown),
  )

-- ---- what a call of each part leaves

-- the parts after an entry was put behind the others
pub record AreAppended (f : Inside) (order' members' unmarked' : Lists) (keys' : List (Option ℕ)) (p g key : ℕ) : Type 0 where
  pub entry : IsAbsent f p
  pub may : MayHave f.keys.slots g key
  pub keys : keys' ≡ set f.keys.slots g (Some key)
  pub order : (order'.slot_count ≡ f.order.slot_count) × (order'.lists ≡ set f.order.lists 0 (list_of f.order 0 ++ p ∷ []))
  pub members : (members'.slot_count ≡ f.members.slot_count) × (members'.lists ≡ set f.members.lists g (list_of f.members g ++ p ∷ []))
  pub unmarked : (unmarked'.slot_count ≡ f.unmarked.slot_count) × (unmarked'.lists ≡ set f.unmarked.lists g (list_of f.unmarked g ++ p ∷ []))

module _ (f : Inside) (order' members' unmarked' : Lists) (keys' : List (Option ℕ)) (p g key : ℕ) (a : AreAppended f order' members' unmarked' keys' p g key) where
  pub kept_appended : IsIndexed f.capacity order' members' (set f.groups.items p g) keys' × IsMarked f.capacity order' members' unmarked'
  kept_appended = (
    append_indexed f.capacity f.order f.members f.unmarked order' members' unmarked' f.groups.items f.keys.slots keys' p g key a.entry.kept.0 a.entry.kept.1 a.entry.below a.entry.absent a.may a.keys a.order.0 a.order.1 a.members.0 a.members.1 a.unmarked.0 a.unmarked.1,
    append_marked f.capacity f.order f.members f.unmarked order' members' unmarked' f.groups.items f.keys.slots keys' p g key a.entry.kept.0 a.entry.kept.1 a.entry.below a.entry.absent a.may a.keys a.order.0 a.order.1 a.members.0 a.members.1 a.unmarked.0 a.unmarked.1,
  )

  pub entries_appended : (seen : Entries) (room : ℕ) → Shows f seen room → entries_of order' keys' (set f.groups.items p g) (is_marked f.capacity unmarked') ≡ seen.entries ++ record { key = key; place = p; marked = false } ∷ []
  entries_appended seen room view =
      append_entries f.capacity f.order f.members f.unmarked order' members' unmarked' f.groups.items f.keys.slots keys' p g key a.entry.kept.0 a.entry.kept.1 a.entry.below a.entry.absent a.may a.keys a.order.0 a.order.1 a.members.0 a.members.1 a.unmarked.0 a.unmarked.1
      ∙ ap (λ es. es ++ record { key = key; place = p; marked = false } ∷ []) (ap (λ (v : Entries). v.entries) view)

-- the parts after an entry was removed
pub record AreRemoved (f : Inside) (order' members' unmarked' : Lists) (p g count : ℕ) : Type 0 where
  pub entry : HasGroup f p g
  pub order : (order'.slot_count ≡ f.order.slot_count) × (order'.lists ≡ map (without p) f.order.lists)
  pub members : (members'.slot_count ≡ f.members.slot_count) × (members'.lists ≡ map (without p) f.members.lists)
  pub unmarked : (unmarked'.slot_count ≡ f.unmarked.slot_count) × (unmarked'.lists ≡ map (without p) f.unmarked.lists)
  pub counted : count ≡ length (list_of members' g)

-- what they keep and show then
abbrev pub IsLeft : Inside → Entries → Lists → Lists → Lists → List (Option ℕ) → ℕ → Type 0
IsLeft f seen order' members' unmarked' keys' p =
    (IsIndexed f.capacity order' members' f.groups.items keys' × IsMarked f.capacity order' members' unmarked')
    × (entries_of order' keys' f.groups.items (is_marked f.capacity unmarked') ≡ filter (λ x. not (is_at p x)) seen.entries)

module _ (f : Inside) (seen : Entries) (room : ℕ) (view : Shows f seen room) (order' members' unmarked' : Lists) (p g count : ℕ) (r : AreRemoved f order' members' unmarked' p g count) where
  left_marked : IsMarked f.capacity order' members' unmarked'
  left_marked = remove_marked f.capacity f.order f.members f.unmarked order' members' unmarked' f.groups.items f.keys.slots p g count r.entry.entry.kept.0 r.entry.entry.kept.1 r.entry.entry.listed r.entry.own r.order.0 r.order.1 r.members.0 r.members.1 r.unmarked.0 r.unmarked.1 r.counted

  left_seen : filter (λ x. not (is_at p x)) (entries_of f.order f.keys.slots f.groups.items (is_marked f.capacity f.unmarked)) ≡ filter (λ x. not (is_at p x)) seen.entries
  left_seen = ap (λ (v : Entries). filter (λ x. not (is_at p x)) v.entries) view

  pub left_kept : (count ≡ 0 → ⊥) → IsLeft f seen order' members' unmarked' f.keys.slots p
  left_kept some =
      let kept = remove_kept f.capacity f.order f.members f.unmarked order' members' unmarked' f.groups.items f.keys.slots p g count r.entry.entry.kept.0 r.entry.entry.kept.1 r.entry.entry.listed r.entry.own r.order.0 r.order.1 r.members.0 r.members.1 r.unmarked.0 r.unmarked.1 r.counted some in
      ((kept.0, left_marked), kept.1 ∙ left_seen)

  pub left_vacant : (keys' : List (Option ℕ)) → keys' ≡ set f.keys.slots g None → count ≡ 0 → IsLeft f seen order' members' unmarked' keys' p
  left_vacant keys' e none =
      let last = remove_last f.capacity f.order f.members f.unmarked order' members' unmarked' f.groups.items f.keys.slots p g count r.entry.entry.kept.0 r.entry.entry.kept.1 r.entry.entry.listed r.entry.own r.order.0 r.order.1 r.members.0 r.members.1 r.unmarked.0 r.unmarked.1 r.counted keys' e none in
      ((last.0, left_marked), last.1 ∙ left_seen)
