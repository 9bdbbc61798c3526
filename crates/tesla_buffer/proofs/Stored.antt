-- A buffer's parts: what a packet that comes, one that is marked and one that goes leave of them.
use Rattle.std.proofs.Common.{◌≡◌, ℕ, zero, suc, ◌+◌, ◌-◌, ◌^◌, ◌<◌, ◌≤◌, true, false, not, cond, ◌||◌, ◌&&◌, List, [], ◌∷◌, ◌++◌, length, get_or, map, replicate, Some, None, Option, refl, sym, ap, subst, ◌∙◌, arith, eqb, ◌⊎◌, inl, inr, ⊎_elim}
use Rattle.std.specs.List.{filter, list_any}
use Rattle.std.specs.Prelude.{slice_get}
use Rattle.std.proofs.Math.ListN.{set}
use Rattle.std.proofs.lemmas.Bool.{and_from, and_parts, and_left, cases_Bool, cases_eq, cases_lt, cond-false, cond-true, eq-eqb, eqb-true, false_from_ne_true, false≢true, true≢false}
use Rattle.std.proofs.lemmas.List.{append-nil, get_or-append_right, get_or-set_other, get_or-set_same, get_or_append_left, length-append, length-map, length-replicate, length-set, map-append}
use Rattle.std.proofs.lemmas.List.Folds.{list_any-append, list_any_at}
use Rattle.std.proofs.Math.Bool.{or-false}
use Rattle.std.proofs.lemmas.Option.{cond_some, get_or_from_slice_get}
use Rattle.tesla_base.specs.declared.names.Name.{Name}
use Rattle.tesla_buffer.specs.Held.{Held, Holding, first_slot, is_at, is_live, is_of, is_released_as, is_unreleased_of, next_slot, next_unreleased}
use Rattle.tesla_buffer.specs.Stored.{IsStored, IsNumbered, Keyed, held_at, item_at, key_of_name, no_item, entry_slots, released_key}
use Rattle.tesla_buffer.specs.declared.item.Item.{Item}
use Rattle.tesla_links.specs.Entries.{Entries, Entry}
use Rattle.tesla_links.specs.Entries.{first_slot as first_entry, is_at as entry_at, is_under, is_unmarked_under, marked_at, next_slot as next_entry, next_unmarked}
use Rattle.tesla_base.specs.Members.{Distinct, is_in, without}
use Rattle.tesla_links.specs.Slots.{has_key}
use Rattle.tesla_base.proofs.Filtered.{distinct_filter, filter-map, in_filter}
use Rattle.tesla_links.proofs.Keyed.{replicate_same}
use Rattle.tesla_base.proofs.Members.{apart_from, differs, distinct_push, distinct_split, in_cases, in_prefix, in_here, in_joined, in_rest, without_other, without_same}
use Rattle.tesla_buffer.proofs.HeldSlots.{any_held, first_is, next_is, of_interval, of_unreleased, to_slot, unreleased_next_is, held_on, held_there, keyed_filter, keyed_marked, keyed_on, keyed_push, length-without, live_is, slots_without}

-- ---- a slot for a packet

-- a place at which no packet is held, among slots of which the others are as before, and the free places without it
pub record IsVacant (capacity : ℕ) (slots slots' : List Item) (free' : List ℕ) (es : List Entry) (p : ℕ) : Type 0 where
  pub absent : is_in p (entry_slots es) ≡ false
  pub inside : p < length slots'
  pub most : length slots' ≤ capacity
  pub counted : length es + 1 + length free' ≡ length slots'
  pub distinct_free : Distinct free'
  pub free : (q : ℕ) → is_in q free' ≡ true → (q < length slots') × (is_in q (entry_slots es) ≡ false) × (q ≡ p → ⊥)
  pub longer : length slots ≤ length slots'
  pub same : (q : ℕ) → is_in q (entry_slots es) ≡ true → item_at slots' q ≡ item_at slots q
  pub small : (q : ℕ) → IsNumbered (item_at slots' q)

-- what is told of the slot that isn't in use
abbrev pub Chosen : List Item → List Item → List ℕ → List ℕ → ℕ → Item → Type 0
Chosen slots slots' free free' p empty = ((free ≡ free' ++ p ∷ []) × (slots' ≡ slots)) ⊎ ((free ≡ []) × (free' ≡ []) × (p ≡ length slots) × (slots' ≡ slots ++ empty ∷ []))

-- an item of a list of one, or none
either : (empty : Item) (n : ℕ) → empty.released ≡ false → IsNumbered (get_or (empty ∷ []) n no_item)
either empty zero none = λ e. absurd (false≢true (sym none ∙ e))
either empty (suc n) none = λ e. absurd (false≢true e)

module _ (capacity : ℕ) (slots slots' : List Item) (free free' : List ℕ) (index : Entries) (released : List (Option ℕ)) (p : ℕ) (empty : Item) (h : IsStored capacity slots free index released) where
  reused : free ≡ free' ++ p ∷ [] → slots' ≡ slots → IsVacant capacity slots slots' free' index.entries p
  reused ef es =
      let distinct : Distinct (free' ++ p ∷ []) = subst (λ xs. Distinct xs) ef h.distinct_free in
      let parts = distinct_split p free' [] distinct in
      let was : (q : ℕ) → is_in q (free' ++ p ∷ []) ≡ true → (q < length slots) × (is_in q (entry_slots index.entries) ≡ false) = λ q i. h.vacant q (ap (is_in q) ef ∙ i) in
      let own = was p (in_rest p free' (p ∷ []) (in_here p [])) in
      record {
        absent = own.1;
        inside = omega (arith, own.0, ap length es);
        most = omega (arith, h.slots_within, ap length es);
        counted = omega (arith, h.counted, ap length es, ap length ef, length-append free' (p ∷ []));
        distinct_free = subst (λ xs. Distinct xs) (append-nil free') parts.2;
        free = λ q i.
            let w = was q (in_prefix q free' (p ∷ []) i) in
            (omega (arith, w.0, ap length es), w.1, λ e. differs q p free' i parts.0 (sym e));
        longer = omega (arith, ap length es);
        same = λ q i. ap (λ ss. item_at ss q) es;
        small = λ q. subst (λ ss. IsNumbered (item_at ss q)) (sym es) (h.small q);
      }

  -- a new slot leaves the others
  grown_same : slots' ≡ slots ++ empty ∷ [] → (q : ℕ) → q < length slots → item_at slots' q ≡ item_at slots q
  grown_same e q below = ap (λ ss. item_at ss q) e ∙ get_or_append_left slots (empty ∷ []) no_item q below

  grown_small : slots' ≡ slots ++ empty ∷ [] → empty.released ≡ false → (q : ℕ) → IsNumbered (item_at slots' q)
  grown_small e none q =
      ⊎_elim
      (λ (below : q < length slots). subst IsNumbered (sym (grown_same e q below)) (h.small q))
      (λ (past : length slots ≤ q).
      let at : item_at slots' q ≡ get_or (empty ∷ []) (q - length slots) no_item = ap (λ ss. item_at ss q) e ∙ get_or-append_right slots (empty ∷ []) (length slots) q no_item refl past in
      subst IsNumbered (sym at) (either empty (q - length slots) none))
      (cases_lt q (length slots))

  grown : free ≡ [] → free' ≡ [] → p ≡ length slots → slots' ≡ slots ++ empty ∷ [] → empty.released ≡ false → length index.entries < capacity → IsVacant capacity slots slots' free' index.entries p
  grown ef ef' ep es none room =
      let long : length slots' ≡ length slots + 1 = ap length es ∙ length-append slots (empty ∷ []) in
      let full : length index.entries ≡ length slots = omega (arith, h.counted, ap length ef) in
      record {
        absent = false_from_ne_true (is_in p (entry_slots index.entries)) (λ i. let below = h.live p i in omega (arith, below, ep));
        inside = omega (arith, ep, long);
        most = omega (arith, long, full, room);
        counted = omega (arith, long, full, ap length ef');
        distinct_free = subst (λ xs. Distinct xs) (sym ef') tt;
        free = λ q i. absurd (false≢true (ap (is_in q) (sym ef') ∙ i));
        longer = omega (arith, long);
        same = λ q i. grown_same es q (h.live q i);
        small = grown_small es none;
      }

  pub chosen : Chosen slots slots' free free' p empty → empty.released ≡ false → length index.entries < capacity → IsVacant capacity slots slots' free' index.entries p
  chosen c none room =
      ⊎_elim (λ (a : (free ≡ free' ++ p ∷ []) × (slots' ≡ slots)). reused a.0 a.1)
      (λ (b : (free ≡ []) × (free' ≡ []) × (p ≡ length slots) × (slots' ≡ slots ++ empty ∷ [])). grown b.0 b.1 b.2 b.3 none room)
      c

-- ---- a packet comes

module _ (capacity : ℕ) (slots slots' slots'' : List Item) (free free' : List ℕ) (index index' : Entries) (released released' : List (Option ℕ)) (p : ℕ) (it : Item)
    (h : IsStored capacity slots free index released) (v : IsVacant capacity slots slots' free' index.entries p)
    (size : length slots'' ≡ length slots') (here : item_at slots'' p ≡ it) (others : (q : ℕ) → (q ≡ p → ⊥) → item_at slots'' q ≡ item_at slots' q)
    (entries : index'.entries ≡ index.entries ++ record { key = it.name.interval; place = p; marked = it.released } ∷ []) where
  appended : entry_slots index'.entries ≡ entry_slots index.entries ++ p ∷ []
  appended = ap entry_slots entries ∙ map-append (λ (e : Entry). e.place) index.entries (record { key = it.name.interval; place = p; marked = it.released } ∷ [])

  appended_cases : (q : ℕ) → is_in q (entry_slots index'.entries) ≡ true → (is_in q (entry_slots index.entries) ≡ true) ⊎ (q ≡ p)
  appended_cases q i =
      ⊎_elim (λ (a : is_in q (entry_slots index.entries) ≡ true). inl a)
      (λ (b : is_in q (p ∷ []) ≡ true). ⊎_elim (λ (s : p ≡ q). inr (sym s)) (λ (n : is_in q [] ≡ true). absurd (false≢true n)) (in_cases p q [] b))
      (in_joined q (entry_slots index.entries) (p ∷ []) (ap (is_in q) (sym appended) ∙ i))

  appended_other : (q : ℕ) → (q ≡ p → ⊥) → is_in q (entry_slots index'.entries) ≡ is_in q (entry_slots index.entries)
  appended_other q ne =
      ap (is_in q) appended ∙ list_any-append (λ x. eqb x q) (entry_slots index.entries) (p ∷ [])
      ∙ ap (λ b. is_in q (entry_slots index.entries) || b) (apart_from p q [] (λ s. ne (sym s)) refl) ∙ or-false (is_in q (entry_slots index.entries))

  appended_here : is_in p (entry_slots index'.entries) ≡ true
  appended_here = ap (is_in p) appended ∙ in_rest p (entry_slots index.entries) (p ∷ []) (in_here p [])

  -- the packets that were held are as they were
  held_same : (q : ℕ) → is_in q (entry_slots index.entries) ≡ true → item_at slots'' q ≡ item_at slots q
  held_same q i = others q (λ e. differs q p (entry_slots index.entries) i v.absent (sym e)) ∙ v.same q i

  -- a slot where no packet is held has no name
  nameless : (q : ℕ) → (q ≡ p → ⊥) → released_key slots'' index'.entries q ≡ released_key slots index.entries q
  nameless q ne =
      ap (λ b. cond (b && (item_at slots'' q).released) (Some (key_of_name (item_at slots'' q).name)) None) (appended_other q ne)
      ∙ ⊎_elim
      (λ (i : is_in q (entry_slots index.entries) ≡ true). ap (λ (x : Item). cond (is_in q (entry_slots index.entries) && x.released) (Some (key_of_name x.name)) None) (held_same q i))
      (λ (n : is_in q (entry_slots index.entries) ≡ false).
      cond-false (is_in q (entry_slots index.entries) && (item_at slots'' q).released) (Some (key_of_name (item_at slots'' q).name)) None (and_left (is_in q (entry_slots index.entries)) (item_at slots'' q).released n)
      ∙ sym (cond-false (is_in q (entry_slots index.entries) && (item_at slots q).released) (Some (key_of_name (item_at slots q).name)) None (and_left (is_in q (entry_slots index.entries)) (item_at slots q).released n)))
      (cases_Bool (is_in q (entry_slots index.entries)))

  pub stored_put : index'.capacity ≡ index.capacity → IsNumbered it → length released' ≡ length released
      → get_or released' p None ≡ cond it.released (Some (key_of_name it.name)) None → ((q : ℕ) → (q ≡ p → ⊥) → get_or released' q None ≡ get_or released q None)
      → IsStored capacity slots'' free' index' released'
  stored_put room small names named unnamed =
      let Below : ℕ → Type 0 = λ q. q < length slots'' in
      let Named : ℕ → Type 0 = λ q. get_or released' q None ≡ released_key slots'' index'.entries q in
      let added = length-append index.entries (record { key = it.name.interval; place = p; marked = it.released } ∷ []) in
      record {
        some = h.some;
        most = h.most;
        room = room ∙ h.room;
        slots_within = omega (arith, size, v.most);
        counted = omega (arith, ap length entries, added, v.counted, size);
        live = λ q i.
            ⊎_elim (λ (a : is_in q (entry_slots index.entries) ≡ true). omega (arith, h.live q a, v.longer, size))
            (λ (s : q ≡ p). subst Below (sym s) (omega (arith, v.inside, size)))
            (appended_cases q i);
        vacant = λ q i. let f = v.free q i in (omega (arith, f.0, size), appended_other q f.2 ∙ f.1);
        distinct = subst (λ xs. Distinct xs) (sym appended) (distinct_push (entry_slots index.entries) p h.distinct v.absent);
        distinct_free = v.distinct_free;
        keyed = subst (λ xs. Keyed slots'' xs) (sym entries)
            (keyed_push slots'' index.entries (record { key = it.name.interval; place = p; marked = it.released })
            (keyed_on slots slots'' index.entries h.keyed (λ q i. ap (λ (x : Item). x.name.interval) (held_same q i)) (λ q i. ap (λ (x : Item). x.released) (held_same q i)))
            (ap (λ (x : Item). x.name.interval) (sym here), ap (λ (x : Item). x.released) (sym here)));
        small = λ q.
            ⊎_elim (λ (s : q ≡ p). subst IsNumbered (sym (ap (item_at slots'') s ∙ here)) small)
            (λ (ne : q ≡ p → ⊥). subst IsNumbered (sym (others q ne)) (v.small q))
            (cases_eq q p);
        names = names ∙ h.names;
        named = λ q.
            ⊎_elim
            (λ (s : q ≡ p). subst Named (sym s)
            (named ∙ sym (ap (λ b. cond (b && (item_at slots'' p).released) (Some (key_of_name (item_at slots'' p).name)) None) appended_here
            ∙ ap (λ (x : Item). cond x.released (Some (key_of_name x.name)) None) here)))
            (λ (ne : q ≡ p → ⊥). unnamed q ne ∙ h.named q ∙ sym (nameless q ne))
            (cases_eq q p);
      }

  pub held_put : map (held_at slots'') index'.entries ≡ map (held_at slots) index.entries ++ record { place = p; item = it } ∷ []
  held_put =
      ap (map (held_at slots'')) entries ∙ map-append (held_at slots'') index.entries (record { key = it.name.interval; place = p; marked = it.released } ∷ [])
      ∙ ap (λ hs. hs ++ held_at slots'' (record { key = it.name.interval; place = p; marked = it.released }) ∷ []) (held_on slots slots'' index.entries held_same)
      ∙ ap (λ (x : Item). map (held_at slots) index.entries ++ record { place = p; item = x } ∷ []) here

-- ---- a packet is marked

module _ (capacity : ℕ) (slots slots' : List Item) (free : List ℕ) (index index' : Entries) (released released' : List (Option ℕ)) (p : ℕ) (it : Item)
    (h : IsStored capacity slots free index released) (live : is_in p (entry_slots index.entries) ≡ true)
    (size : length slots' ≡ length slots) (here : item_at slots' p ≡ it) (others : (q : ℕ) → (q ≡ p → ⊥) → item_at slots' q ≡ item_at slots q)
    (name : it.name ≡ (item_at slots p).name) where
  -- all keep their intervals
  interval_kept : (q : ℕ) → (item_at slots' q).name.interval ≡ (item_at slots q).name.interval
  interval_kept q =
      ⊎_elim (λ (s : q ≡ p). ap (λ j. (item_at slots' j).name.interval) s ∙ ap (λ (x : Item). x.name.interval) here ∙ ap (λ (n : Name). n.interval) name ∙ ap (λ j. (item_at slots j).name.interval) (sym s))
      (λ (ne : q ≡ p → ⊥). ap (λ (x : Item). x.name.interval) (others q ne))
      (cases_eq q p)

  -- an entry stays where its packet is released no more than before
  pub keyed_same : it.released ≡ (item_at slots p).released → Keyed slots' index.entries
  keyed_same same =
      keyed_on slots slots' index.entries h.keyed (λ q i. interval_kept q)
      (λ q i. ⊎_elim (λ (s : q ≡ p). ap (λ j. (item_at slots' j).released) s ∙ ap (λ (x : Item). x.released) here ∙ same ∙ ap (λ j. (item_at slots j).released) (sym s))
      (λ (ne : q ≡ p → ⊥). ap (λ (x : Item). x.released) (others q ne))
      (cases_eq q p))

  -- and is marked where it is released from now on
  pub keyed_released : it.released ≡ true → index'.entries ≡ marked_at p index.entries → Keyed slots' index'.entries
  keyed_released e entries =
      subst (λ xs. Keyed slots' xs) (sym entries)
      (keyed_marked slots slots' p index.entries interval_kept (ap (λ (x : Item). x.released) here ∙ e) (λ q ne. ap (λ (x : Item). x.released) (others q ne)) h.keyed)

  pub stored_marked : entry_slots index'.entries ≡ entry_slots index.entries → index'.capacity ≡ index.capacity → Keyed slots' index'.entries
      → IsNumbered it → length released' ≡ length released → get_or released' p None ≡ cond it.released (Some (key_of_name it.name)) None → ((q : ℕ) → (q ≡ p → ⊥) → get_or released' q None ≡ get_or released q None)
      → IsStored capacity slots' free index' released'
  stored_marked slots_are room keyed small names named unnamed =
      let Named : ℕ → Type 0 = λ q. get_or released' q None ≡ released_key slots' index.entries q in
      let named_before : (q : ℕ) → get_or released' q None ≡ released_key slots' index.entries q = λ q.
      ⊎_elim
      (λ (s : q ≡ p). subst Named (sym s)
      (named ∙ sym (ap (λ b. cond (b && (item_at slots' p).released) (Some (key_of_name (item_at slots' p).name)) None) live
      ∙ ap (λ (x : Item). cond x.released (Some (key_of_name x.name)) None) here)))
      (λ (ne : q ≡ p → ⊥). unnamed q ne ∙ h.named q ∙ ap (λ (x : Item). cond (is_in q (entry_slots index.entries) && x.released) (Some (key_of_name x.name)) None) (sym (others q ne)))
      (cases_eq q p) in
      record {
        some = h.some;
        most = h.most;
        room = room ∙ h.room;
        slots_within = omega (arith, size, h.slots_within);
        counted = omega (arith, h.counted, size, length-map index'.entries (λ (e : Entry). e.place), length-map index.entries (λ (e : Entry). e.place), ap length slots_are);
        live = λ q i. omega (arith, h.live q (ap (is_in q) (sym slots_are) ∙ i), size);
        vacant = λ q i. let f = h.vacant q i in (omega (arith, f.0, size), ap (is_in q) slots_are ∙ f.1);
        distinct = subst (λ xs. Distinct xs) (sym slots_are) h.distinct;
        distinct_free = h.distinct_free;
        keyed = keyed;
        small = λ q.
            ⊎_elim (λ (s : q ≡ p). subst IsNumbered (sym (ap (item_at slots') s ∙ here)) small)
            (λ (ne : q ≡ p → ⊥). subst IsNumbered (sym (others q ne)) (h.small q))
            (cases_eq q p);
        names = names ∙ h.names;
        named = λ q. named_before q ∙ ap (λ ps. cond (is_in q ps && (item_at slots' q).released) (Some (key_of_name (item_at slots' q).name)) None) (sym slots_are);
      }

-- what the table of names says of a packet that is held
pub named_live : (capacity : ℕ) (slots : List Item) (free : List ℕ) (index : Entries) (released : List (Option ℕ)) (p : ℕ) → IsStored capacity slots free index released → is_in p (entry_slots index.entries) ≡ true
    → get_or released p None ≡ cond (item_at slots p).released (Some (key_of_name (item_at slots p).name)) None
named_live capacity slots free index released p h live =
    h.named p ∙ ap (λ b. cond (b && (item_at slots p).released) (Some (key_of_name (item_at slots p).name)) None) live

-- ---- a packet goes

module _ (capacity : ℕ) (slots : List Item) (free free' : List ℕ) (index index' : Entries) (released released' : List (Option ℕ)) (p : ℕ)
    (h : IsStored capacity slots free index released) (live : is_in p (entry_slots index.entries) ≡ true)
    (entries : index'.entries ≡ filter (λ e. not (entry_at p e)) index.entries) where
  gone : entry_slots index'.entries ≡ without p (entry_slots index.entries)
  gone = ap entry_slots entries ∙ slots_without p index.entries

  gone_other : (q : ℕ) → (q ≡ p → ⊥) → is_in q (entry_slots index'.entries) ≡ is_in q (entry_slots index.entries)
  gone_other q ne = ap (is_in q) gone ∙ without_other p q (entry_slots index.entries) ne

  gone_here : is_in p (entry_slots index'.entries) ≡ false
  gone_here = ap (is_in p) gone ∙ without_same p (entry_slots index.entries)

  pub stored_gone : index'.capacity ≡ index.capacity → free' ≡ free ++ p ∷ [] → released' ≡ set released p None → IsStored capacity slots free' index' released'
  stored_gone room ef er =
      let fewer : length index'.entries + 1 ≡ length index.entries =
      omega (arith, length-map index'.entries (λ (e : Entry). e.place), length-map index.entries (λ (e : Entry). e.place), ap length gone, length-without p (entry_slots index.entries) h.distinct live) in
      let busy : is_in p free ≡ false = false_from_ne_true (is_in p free) (λ i. true≢false (sym live ∙ (h.vacant p i).1)) in
      let Free : ℕ → Type 0 = λ q. (q < length slots) × (is_in q (entry_slots index'.entries) ≡ false) in
      let Named : ℕ → Type 0 = λ q. get_or released' q None ≡ released_key slots index'.entries q in
      record {
        some = h.some;
        most = h.most;
        room = room ∙ h.room;
        slots_within = h.slots_within;
        counted = omega (arith, h.counted, fewer, ap length ef, length-append free (p ∷ []));
        live = λ q i. h.live q ((in_filter (λ x. not (eqb x p)) q (entry_slots index.entries) (ap (is_in q) (sym gone) ∙ i)).0);
        vacant = λ q i.
            ⊎_elim
            (λ (s : q ≡ p). subst Free (sym s) (h.live p live, gone_here))
            (λ (ne : q ≡ p → ⊥).
            let was : is_in q free ≡ true =
            ⊎_elim (λ (a : is_in q free ≡ true). a)
            (λ (b : is_in q (p ∷ []) ≡ true). ⊎_elim (λ (s : p ≡ q). absurd (ne (sym s))) (λ (n : is_in q [] ≡ true). absurd (false≢true n)) (in_cases p q [] b))
            (in_joined q free (p ∷ []) (ap (is_in q) (sym ef) ∙ i)) in
            let f = h.vacant q was in
            (f.0, gone_other q ne ∙ f.1))
            (cases_eq q p);
        distinct = subst (λ xs. Distinct xs) (sym gone) (distinct_filter (λ x. not (eqb x p)) (entry_slots index.entries) h.distinct);
        distinct_free = subst (λ xs. Distinct xs) (sym ef) (distinct_push free p h.distinct_free busy);
        keyed = subst (λ xs. Keyed slots xs) (sym entries) (keyed_filter slots (λ e. not (entry_at p e)) index.entries h.keyed);
        small = h.small;
        names = ap length er ∙ length-set released p None ∙ h.names;
        named = λ q.
            ⊎_elim
            (λ (s : q ≡ p). subst Named (sym s)
            (ap (λ rs. get_or rs p None) er ∙ get_or-set_same released p None None (omega (arith, h.names, h.slots_within, h.live p live))
            ∙ sym (cond-false (is_in p (entry_slots index'.entries) && (item_at slots p).released) (Some (key_of_name (item_at slots p).name)) None (and_left (is_in p (entry_slots index'.entries)) (item_at slots p).released gone_here))))
            (λ (ne : q ≡ p → ⊥).
            ap (λ rs. get_or rs q None) er ∙ get_or-set_other released p q None None ne ∙ h.named q
            ∙ ap (λ b. cond (b && (item_at slots q).released) (Some (key_of_name (item_at slots q).name)) None) (sym (gone_other q ne)))
            (cases_eq q p);
      }

  pub held_gone : map (held_at slots) index'.entries ≡ filter (λ h. not (is_at p h)) (map (held_at slots) index.entries)
  held_gone = ap (map (held_at slots)) entries ∙ sym (filter-map (λ (h : Held). not (is_at p h)) (held_at slots) index.entries)

-- ---- a released packet is found

-- names with one key are one
same_name : (m n : Name) → m.number < 2 ^ 16 → n.number < 2 ^ 16 → key_of_name m ≡ key_of_name n → (m.interval ≡ n.interval) × (m.number ≡ n.number)
same_name m n a b e = (omega arith, omega arith)

module _ (capacity : ℕ) (slots : List Item) (free : List ℕ) (index : Entries) (released : List (Option ℕ)) (name : Name) (h : IsStored capacity slots free index released) (small : name.number < 2 ^ 16) where
  pub found_named : (p : ℕ) → slice_get released p ≡ Some (Some (key_of_name name)) → list_any (λ x. is_at p x && is_released_as name x) (map (held_at slots) index.entries) ≡ true
  found_named p e =
      let item = item_at slots p in
      let test = is_in p (entry_slots index.entries) && item.released in
      let key : released_key slots index.entries p ≡ Some (key_of_name name) = sym (h.named p) ∙ get_or_from_slice_get released p (Some (key_of_name name)) None e in
      let passed = cond_some test (key_of_name item.name) (key_of_name name) key in
      let both = and_parts (is_in p (entry_slots index.entries)) item.released passed.0 in
      let same = same_name item.name name (h.small p both.1) small passed.1 in
      held_there slots (is_released_as name) p index.entries both.0
      (and_from item.released (eqb item.name.interval name.interval && eqb item.name.number name.number) both.1
      (and_from (eqb item.name.interval name.interval) (eqb item.name.number name.number) (eq-eqb _ _ same.0) (eq-eqb _ _ same.1)))

  pub none_named : list_any (has_key (key_of_name name)) released ≡ false → list_any (is_released_as name) (map (held_at slots) index.entries) ≡ false
  none_named none =
      false_from_ne_true (list_any (is_released_as name) (map (held_at slots) index.entries)) (λ some.
      let at = any_held slots (is_released_as name) index.entries some in
      let item = item_at slots at.0 in
      let first = and_parts item.released (eqb item.name.interval name.interval && eqb item.name.number name.number) at.2 in
      let second = and_parts (eqb item.name.interval name.interval) (eqb item.name.number name.number) first.1 in
      let key : key_of_name item.name ≡ key_of_name name = omega (arith, eqb-true _ _ second.0, eqb-true _ _ second.1) in
      let slot : get_or released at.0 None ≡ Some (key_of_name name) =
      named_live capacity slots free index released at.0 h at.1 ∙ cond-true item.released (Some (key_of_name item.name)) None first.0 ∙ ap Some key in
      false≢true (sym none ∙ list_any_at (has_key (key_of_name name)) released at.0 None (omega (arith, h.live at.0 at.1, h.slots_within, h.names))
      (ap (has_key (key_of_name name)) slot ∙ eq-eqb (key_of_name name) (key_of_name name) refl)))

-- ---- at the opening

pub stored_open : (capacity : ℕ) (slots : List Item) (free : List ℕ) (index : Entries) (released : List (Option ℕ)) → 1 ≤ capacity → capacity ≤ 65536
    → slots ≡ [] → free ≡ [] → ◌≡◌ {A = Entries} index (record { capacity = capacity; entries = []; reserved = index.reserved }) → released ≡ replicate capacity None → IsStored capacity slots free index released
stored_open capacity slots free index released some most es ef ei er =
    let entries : index.entries ≡ [] = ap (λ (v : Entries). v.entries) ei in
    let none : entry_slots index.entries ≡ [] = ap entry_slots entries in
    record {
      some = some;
      most = most;
      room = ap (λ (v : Entries). v.capacity) ei;
      slots_within = omega (arith, ap length es);
      counted = omega (arith, ap length es, ap length ef, ap length entries);
      live = λ p i. absurd (false≢true (ap (is_in p) (sym none) ∙ i));
      vacant = λ p i. absurd (false≢true (ap (is_in p) (sym ef) ∙ i));
      distinct = subst (λ xs. Distinct xs) (sym none) tt;
      distinct_free = subst (λ xs. Distinct xs) (sym ef) tt;
      keyed = subst (λ xs. Keyed slots xs) (sym entries) tt;
      small = λ p. subst (λ ss. IsNumbered (item_at ss p)) (sym es) (λ e. absurd (false≢true e));
      names = ap length er ∙ length-replicate capacity None;
      named = λ p. ap (λ rs. get_or rs p None) er ∙ replicate_same capacity p None
          ∙ sym (cond-false (is_in p (entry_slots index.entries) && (item_at slots p).released) (Some (key_of_name (item_at slots p).name)) None (and_left (is_in p (entry_slots index.entries)) (item_at slots p).released (ap (is_in p) none)));
    }

-- ---- what a caller sees

module _ (capacity : ℕ) (slots : List Item) (index : Entries) (seen : Holding) {room : ℕ} (view : ◌≡◌ {A = Holding} (record { capacity = capacity; held = map (held_at slots) index.entries; reserved = room }) seen) where
  pub seen_held : map (held_at slots) index.entries ≡ seen.held
  seen_held = ap (λ (v : Holding). v.held) view

  pub seen_capacity : capacity ≡ seen.capacity
  seen_capacity = ap (λ (v : Holding). v.capacity) view

  pub seen_length : length seen.held ≡ length index.entries
  seen_length = ap length (sym seen_held) ∙ length-map index.entries (held_at slots)

  pub seen_live : (p : ℕ) → is_live p seen.held ≡ is_in p (entry_slots index.entries)
  seen_live p = ap (is_live p) (sym seen_held) ∙ live_is slots p index.entries

  -- where there is room as a caller sees it, the slot that was chosen is one for a packet
  pub vacant_seen : (slots' : List Item) (free free' : List ℕ) (released : List (Option ℕ)) (p : ℕ) (empty : Item) → IsStored capacity slots free index released → length seen.held < seen.capacity → Chosen slots slots' free free' p empty → empty.released ≡ false → IsVacant capacity slots slots' free' index.entries p
  vacant_seen slots' free free' released p empty h room c none =
      chosen capacity slots slots' free free' index released p empty h c none (omega (arith, room, seen_capacity, seen_length))

  -- the slot that a caller names
  pub live_seen : (p : ℕ) → is_live p seen.held ≡ true → is_in p (entry_slots index.entries) ≡ true
  live_seen p live = sym (seen_live p) ∙ live

  -- what the index finds, as a caller sees it
  module _ (keyed : Keyed slots index.entries) where
    pub first_seen : (i k : ℕ) (o : Option ℕ) → k ≡ i → o ≡ first_entry (filter (is_under k) index.entries) → to_slot o ≡ first_slot (filter (is_of i) seen.held)
    first_seen i k o key tells =
        ap to_slot (tells ∙ ap (λ n. first_entry (filter (is_under n) index.entries)) key) ∙ sym (first_is slots (filter (is_under i) index.entries))
        ∙ ap first_slot (sym (of_interval slots i index.entries keyed)) ∙ ap (λ hs. first_slot (filter (is_of i) hs)) seen_held

    pub first_unreleased_seen : (i k : ℕ) (o : Option ℕ) → k ≡ i → o ≡ first_entry (filter (is_unmarked_under k) index.entries) → to_slot o ≡ first_slot (filter (is_unreleased_of i) seen.held)
    first_unreleased_seen i k o key tells =
        ap to_slot (tells ∙ ap (λ n. first_entry (filter (is_unmarked_under n) index.entries)) key) ∙ sym (first_is slots (filter (is_unmarked_under i) index.entries))
        ∙ ap first_slot (sym (of_unreleased slots i index.entries keyed)) ∙ ap (λ hs. first_slot (filter (is_unreleased_of i) hs)) seen_held

    pub next_seen : (p : ℕ) (o : Option ℕ) → o ≡ next_entry p index.entries → to_slot o ≡ next_slot p seen.held
    next_seen p o tells = ap to_slot tells ∙ sym (next_is slots p index.entries keyed) ∙ ap (next_slot p) seen_held

    pub next_unreleased_seen : (p : ℕ) (o : Option ℕ) → o ≡ next_unmarked p index.entries → to_slot o ≡ next_unreleased p seen.held
    next_unreleased_seen p o tells = ap to_slot tells ∙ sym (unreleased_next_is slots p index.entries keyed) ∙ ap (next_unreleased p) seen_held

-- a slot at which no packet is held has no name
pub unnamed_vacant : (capacity : ℕ) (slots : List Item) (free : List ℕ) (index : Entries) (released : List (Option ℕ)) (p : ℕ) → IsStored capacity slots free index released → is_in p (entry_slots index.entries) ≡ false
    → get_or released p None ≡ None
unnamed_vacant capacity slots free index released p h none =
    h.named p ∙ cond-false (is_in p (entry_slots index.entries) && (item_at slots p).released) (Some (key_of_name (item_at slots p).name)) None (and_left (is_in p (entry_slots index.entries)) (item_at slots p).released none)
