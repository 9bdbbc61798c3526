-- The packet that waits first is taken.
use Rattle.std.proofs.Common.{◌≡◌, ℕ, Bool, true, false, cond, ◌&&◌, ◌||◌, List, [], ◌∷◌, ◌++◌, map, flat_map, drop, Some, refl, sym, ap, subst, ⊎_elim, ◌∙◌, arith, ◌==◌}
use Rattle.std.specs.Prelude.{not, find, slice_get}
use Rattle.std.specs.List.{list_any, list_all}
use Rattle.std.proofs.lemmas.Bool.{cases_Bool, and_parts, and_from, or_left, or_right, both_ways, eqb-true, eq-eqb, ne_eqb, false_from_ne_true}
use Rattle.std.proofs.lemmas.List.Elements.{All-filter, All-map, All-weaker}
use Rattle.tesla_buffer.specs.Held.{Held, changed, settled}
use Rattle.tesla_buffer.specs.Held as buffer
use Rattle.tesla_buffer.specs.declared.item.Fate.{Fate}
use Rattle.tesla_buffer.specs.declared.item.Fate.TheVariants.{Gone, Taken}
use Rattle.tesla_base.specs.Members.{is_in, Distinct}
use Rattle.tesla_base.proofs.Members.{head_other}
use Rattle.tesla_release.specs.declared.queue.Waiting.{Waiting}
use Rattle.tesla_state.specs.Stored.{Placed, placed_in, slot_of, slot_in, order_of, stands_at, release_by, release_in, waits, waits_at, is_sound, with_taken, without, IsStored, IsStore, IsItemOf}
use Rattle.tesla_state.proofs.Marked.{any_weaker, any_mapped, map_mapped}
use Rattle.tesla_state.proofs.ReleasedPackets.{only_at}
use Rattle.tesla_state.proofs.Stored.{any_shown, gone_stored, length-marked, releases_kept, releases_marked, without_shown}
use Rattle.tesla_state.proofs.Sweeping.{none_without}

pub first_waiting : (ws : List Waiting) (w : Waiting) → Some w ≡ slice_get ws 0 → ws ≡ w ∷ drop 1 ws
first_waiting [] w h = absurd (cc)
first_waiting (x ∷ xs) w h = let same : x ≡ w = cc in ap (λ y. y ∷ xs) same

-- ---- the mark

abbrev taken_now : Placed → Placed
taken_now x = record x { holding = record x.holding { taken = true } }

mark_slot : (b : Bool) (x : Placed) → (cond b (taken_now x) x).place ≡ x.place
mark_slot true x = refl
mark_slot false x = refl

taken_slot : (p : ℕ) (x : Placed) → (with_taken p x).place ≡ x.place
taken_slot p x = mark_slot (x.place == p) x

mark_release : (chain : ℕ) (b : Bool) (x : Placed) → release_by chain (Some (cond b (taken_now x) x)) ≡ release_by chain (Some x)
mark_release chain true x = refl
mark_release chain false x = refl

taken_release : (p chain : ℕ) (x : Placed) → release_by chain (Some (with_taken p x)) ≡ release_by chain (Some x)
taken_release p chain x = mark_release chain (x.place == p) x

mark_shown : (chains : ℕ) (b : Bool) (x : Held) → placed_in chains (cond b (record { place = x.place; item = record x.item { taken = true } }) x) ≡ cond b (taken_now (placed_in chains x)) (placed_in chains x)
mark_shown chains true x = refl
mark_shown chains false x = refl

pub taken_shown : (chains p : ℕ) (held : List Held) → map (placed_in chains) (changed p (λ item. record item { taken = true }) held) ≡ map (with_taken p) (map (placed_in chains) held)
taken_shown chains p held =
    map_mapped (placed_in chains) (λ (h : Held). cond (buffer.is_at p h) (record { place = h.place; item = record h.item { taken = true } }) h) (λ x. with_taken p (placed_in chains x)) (λ x. mark_shown chains (x.place == p) x) held
    ∙ sym (map_mapped (with_taken p) (placed_in chains) (λ x. with_taken p (placed_in chains x)) (λ x. refl) held)

-- ---- the invariant

tail_stored : (capacity room : ℕ) (held : List Placed) (w : Waiting) (ws : List Waiting) → IsStored capacity room held (w ∷ ws) → IsStored capacity room held ws
tail_stored capacity room held w ws s = record {
  few = s.few;
  fits = s.fits;
  same = s.same;
  distinct = s.distinct;
  sound = s.sound;
  once = s.once.1;
  live = (and_parts (list_any (waits_at w.place.0) held) (list_all (λ entry. list_any (waits_at entry.place.0) held) ws) s.live).1;
}

pub first_live : (capacity room : ℕ) (held : List Placed) (w : Waiting) (ws : List Waiting) → IsStored capacity room held (w ∷ ws) → list_any (waits_at w.place.0) held ≡ true
first_live capacity room held w ws s = (and_parts (list_any (waits_at w.place.0) held) (list_all (λ entry. list_any (waits_at entry.place.0) held) ws) s.live).0

-- what was released stays so
sound_marked : (p : ℕ) (held : List Placed) → list_all (λ x. not (stands_at p x) || waits x) held ≡ true → list_all is_sound held ≡ true → list_all is_sound (map (with_taken p) held) ≡ true
sound_marked p [] h k = refl
sound_marked p (x ∷ xs) h k =
    let a = and_parts (not (stands_at p x) || waits x) (list_all (λ y. not (stands_at p y) || waits y) xs) h in
    let b = and_parts (is_sound x) (list_all is_sound xs) k in
    ⊎_elim
    (λ e. let ours : waits x ≡ true = sym (ap (λ t. not t || waits x) e) ∙ a.0 in
    ap (λ t. is_sound (cond t (taken_now x) x) && list_all is_sound (map (with_taken p) xs)) e
    ∙ ap (λ t. (t || false) && list_all is_sound (map (with_taken p) xs)) (and_parts x.holding.released (not x.holding.taken) ours).0 ∙ sound_marked p xs a.1 b.1)
    (λ e. ap (λ t. is_sound (cond t (taken_now x) x) && list_all is_sound (map (with_taken p) xs)) e
    ∙ ap (λ t. t && list_all is_sound (map (with_taken p) xs)) b.0 ∙ sound_marked p xs a.1 b.1)
    (cases_Bool (stands_at p x))

waits_marked : (p q : ℕ) (b : Bool) (x : Placed) → stands_at p x ≡ b → (q == p) ≡ false → waits_at q (cond b (taken_now x) x) ≡ waits_at q x
waits_marked p q true x e other =
    let none : stands_at q x ≡ false = ne_eqb x.place q (λ k. both_ways (q == p) other (eq-eqb q p (sym k ∙ eqb-true x.place p e))) in
    ap (λ t. t && waits (taken_now x)) none ∙ sym (ap (λ t. t && waits x) none)
waits_marked p q false x e other = refl

live_marked : (p : ℕ) (held : List Placed) (ws : List Waiting) → is_in p (map slot_in ws) ≡ false → list_all (λ entry. list_any (waits_at entry.place.0) held) ws ≡ true → list_all (λ entry. list_any (waits_at entry.place.0) (map (with_taken p) held)) ws ≡ true
live_marked p held [] none h = refl
live_marked p held (w ∷ ws) none h =
    let first : (w.place.0 == p) ≡ false = false_from_ne_true (w.place.0 == p) (λ e. both_ways (is_in p (map slot_in (w ∷ ws))) none (or_left (w.place.0 == p) (is_in p (map slot_in ws)) e)) in
    let rest : is_in p (map slot_in ws) ≡ false = sym (ap (λ t. t || is_in p (map slot_in ws)) first) ∙ none in
    let parts = and_parts (list_any (waits_at w.place.0) held) (list_all (λ entry. list_any (waits_at entry.place.0) held) ws) h in
    and_from (list_any (waits_at w.place.0) (map (with_taken p) held)) (list_all (λ entry. list_any (waits_at entry.place.0) (map (with_taken p) held)) ws)
    (any_mapped (waits_at w.place.0) (waits_at w.place.0) (with_taken p) (λ x. waits_marked p w.place.0 (stands_at p x) x refl first) held ∙ parts.0)
    (live_marked p held ws rest parts.1)

marked_stored : (capacity room p : ℕ) (held : List Placed) (ws : List Waiting) → IsStored capacity room held ws → is_in p (map slot_in ws) ≡ false → list_any (waits_at p) held ≡ true → IsStored capacity room (map (with_taken p) held) ws
marked_stored capacity room p held ws s none h = record {
  few = s.few;
  fits = (let long = length-marked (with_taken p) held in let fits = s.fits in omega arith);
  same = s.same;
  distinct = subst Distinct (sym (map_mapped slot_of (with_taken p) slot_of (taken_slot p) held)) s.distinct;
  sound = sound_marked p held (only_at p waits held s.distinct h) s.sound;
  once = s.once;
  live = live_marked p held ws none s.live;
}

abbrev pub fate_if : Bool → Fate
fate_if b = cond b Gone Taken

item_marked : (chains : ℕ) (b : Bool) (x : Held) → IsItemOf chains x → IsItemOf chains (cond b (record { place = x.place; item = record x.item { taken = true } }) x)
item_marked chains true x h = record { few = h.few; payload = h.payload; tags = h.tags }
item_marked chains false x h = h

pub taken_store : (capacity room chains : ℕ) (b : Bool) (held : List Held) (w : Waiting) (ws : List Waiting) → IsStore capacity room chains held (w ∷ ws) → IsStore capacity room chains (settled w.place.0 (fate_if b) held) ws
taken_store capacity room chains true held w ws s = record {
  stored = subst (λ (xs : List Placed). IsStored capacity room xs ws) (sym (without_shown chains w.place.0 held))
      (gone_stored capacity room w.place.0 (map (placed_in chains) held) ws (tail_stored capacity room (map (placed_in chains) held) w ws s.stored) s.stored.once.0);
  items = All-filter (λ x. not (buffer.is_at w.place.0 x)) (IsItemOf chains) held s.items;
}
taken_store capacity room chains false held w ws s = record {
  stored = subst (λ (xs : List Placed). IsStored capacity room xs ws) (sym (taken_shown chains w.place.0 held))
      (marked_stored capacity room w.place.0 (map (placed_in chains) held) ws (tail_stored capacity room (map (placed_in chains) held) w ws s.stored) s.stored.once.0 (first_live capacity room (map (placed_in chains) held) w ws s.stored));
  items = All-map (IsItemOf chains) (λ (x : Held). cond (buffer.is_at w.place.0 x) (record { place = x.place; item = record x.item { taken = true } }) x) held
      (All-weaker (IsItemOf chains) (λ x. IsItemOf chains (cond (buffer.is_at w.place.0 x) (record { place = x.place; item = record x.item { taken = true } }) x)) (λ x k. item_marked chains (buffer.is_at w.place.0 x) x k) held s.items);
}

-- ---- what is held and what waits

abbrev pub settled_taken : Bool → ℕ → List Placed → List Placed
settled_taken b p held = cond b (without p held) (map (with_taken p) held)

pub settled_shown : (chains p : ℕ) (b : Bool) (held : List Held) → map (placed_in chains) (settled p (fate_if b) held) ≡ settled_taken b p (map (placed_in chains) held)
settled_shown chains p true held = without_shown chains p held
settled_shown chains p false held = taken_shown chains p held

pub releases_taken : (b : Bool) (p : ℕ) (held : List Placed) (ws : List Waiting) → is_in p (map slot_in ws) ≡ false → map (release_in (settled_taken b p held)) ws ≡ map (release_in held) ws
releases_taken true p held ws none = releases_kept p held ws none
releases_taken false p held ws none = releases_marked (with_taken p) (taken_slot p) (taken_release p) held ws

none_taken : (p : ℕ) (held : List Placed) → is_in p (map slot_of held) ≡ false → map (with_taken p) held ≡ held
none_taken p [] h = refl
none_taken p (x ∷ xs) h =
    let first : (x.place == p) ≡ false = false_from_ne_true (x.place == p) (λ e. both_ways (is_in p (map slot_of (x ∷ xs))) h (or_left (x.place == p) (is_in p (map slot_of xs)) e)) in
    let rest : is_in p (map slot_of xs) ≡ false = sym (ap (λ t. t || is_in p (map slot_of xs)) first) ∙ h in
    ap (λ t. cond t (taken_now x) x ∷ map (with_taken p) xs) first ∙ ap (λ r. x ∷ r) (none_taken p xs rest)

abbrev by_order : (Placed → Bool) → ℕ → Placed → List Placed
by_order g o x = cond (x.holding.order == o) (cond (g x) [] (taken_now x ∷ [])) (x ∷ [])

none_of_order : (g : Placed → Bool) (o : ℕ) (held : List Placed) → is_in o (map order_of held) ≡ false → flat_map (by_order g o) held ≡ held
none_of_order g o [] h = refl
none_of_order g o (x ∷ xs) h =
    let first : (x.holding.order == o) ≡ false = false_from_ne_true (x.holding.order == o) (λ e. both_ways (is_in o (map order_of (x ∷ xs))) h (or_left (x.holding.order == o) (is_in o (map order_of xs)) e)) in
    let rest : is_in o (map order_of xs) ≡ false = sym (ap (λ t. t || is_in o (map order_of xs)) first) ∙ h in
    ap (λ t. cond t (cond (g x) [] (taken_now x ∷ [])) (x ∷ []) ++ flat_map (by_order g o) xs) first ∙ ap (λ r. x ∷ r) (none_of_order g o xs rest)

order_stands : (p : ℕ) (y : Placed) (held : List Placed) → find (stands_at p) held ≡ Some y → is_in y.holding.order (map order_of held) ≡ true
order_stands p y [] h = absurd (cc)
order_stands p y (x ∷ xs) h =
    ⊎_elim
    (λ e. let found : Some x ≡ Some y = sym (ap (λ t. cond t (Some x) (find (stands_at p) xs)) e) ∙ h in
    let same : x ≡ y = cc in
    or_left (x.holding.order == y.holding.order) (is_in y.holding.order (map order_of xs)) (eq-eqb x.holding.order y.holding.order (ap (λ (z : Placed). z.holding.order) same)))
    (λ e. or_right (x.holding.order == y.holding.order) (is_in y.holding.order (map order_of xs)) (order_stands p y xs (sym (ap (λ t. cond t (Some x) (find (stands_at p) xs)) e) ∙ h)))
    (cases_Bool (stands_at p x))

-- where it stands first
here_taken : (g : Placed → Bool) (b : Bool) (p : ℕ) (x : Placed) (xs : List Placed) → g x ≡ b → stands_at p x ≡ true → is_in p (map slot_of xs) ≡ false → is_in x.holding.order (map order_of xs) ≡ false → settled_taken b p (x ∷ xs) ≡ flat_map (by_order g x.holding.order) (x ∷ xs)
here_taken g true p x xs o e none unheard =
    ap (λ t. cond (not t) (x ∷ without p xs) (without p xs)) e ∙ none_without p xs none
    ∙ sym (ap (λ t. cond t (cond (g x) [] (taken_now x ∷ [])) (x ∷ []) ++ flat_map (by_order g x.holding.order) xs) (eq-eqb x.holding.order x.holding.order refl)
    ∙ ap (λ t. cond t [] (taken_now x ∷ []) ++ flat_map (by_order g x.holding.order) xs) o ∙ none_of_order g x.holding.order xs unheard)
here_taken g false p x xs o e none unheard =
    ap (λ t. cond t (taken_now x) x ∷ map (with_taken p) xs) e ∙ ap (λ r. taken_now x ∷ r) (none_taken p xs none)
    ∙ sym (ap (λ t. cond t (cond (g x) [] (taken_now x ∷ [])) (x ∷ []) ++ flat_map (by_order g x.holding.order) xs) (eq-eqb x.holding.order x.holding.order refl)
    ∙ ap (λ t. cond t [] (taken_now x ∷ []) ++ flat_map (by_order g x.holding.order) xs) o ∙ ap (λ r. taken_now x ∷ r) (none_of_order g x.holding.order xs unheard))

past_taken : (b : Bool) (p : ℕ) (x : Placed) (xs : List Placed) → stands_at p x ≡ false → settled_taken b p (x ∷ xs) ≡ x ∷ settled_taken b p xs
past_taken true p x xs e = ap (λ t. cond (not t) (x ∷ without p xs) (without p xs)) e
past_taken false p x xs e = ap (λ t. cond t (taken_now x) x ∷ map (with_taken p) xs) e

pub taken_by_order : (g : Placed → Bool) (p : ℕ) (y : Placed) (held : List Placed) → Distinct (map slot_of held) → Distinct (map order_of held) → find (stands_at p) held ≡ Some y → settled_taken (g y) p held ≡ flat_map (by_order g y.holding.order) held
taken_by_order g p y [] d o h = absurd (cc)
taken_by_order g p y (x ∷ xs) d o h =
    ⊎_elim
    (λ e. let found : Some x ≡ Some y = sym (ap (λ t. cond t (Some x) (find (stands_at p) xs)) e) ∙ h in
    let same : x ≡ y = cc in
    subst (λ (z : Placed). settled_taken (g z) p (x ∷ xs) ≡ flat_map (by_order g z.holding.order) (x ∷ xs)) same
    (here_taken g (g x) p x xs refl e (ap (λ (n : ℕ). is_in n (map slot_of xs)) (sym (eqb-true x.place p e)) ∙ d.0) o.0))
    (λ e. let later = sym (ap (λ t. cond t (Some x) (find (stands_at p) xs)) e) ∙ h in
    let other : (x.holding.order == y.holding.order) ≡ false = head_other y.holding.order x.holding.order (map order_of xs) o.0 (order_stands p y xs later) in
    past_taken (g y) p x xs e ∙ ap (λ r. x ∷ r) (taken_by_order g p y xs d.1 o.1 later)
    ∙ sym (ap (λ t. cond t (cond (g x) [] (taken_now x ∷ [])) (x ∷ []) ++ flat_map (by_order g y.holding.order) xs) other))
    (cases_Bool (stands_at p x))

-- what stands in a slot is found by its number
pub found_by_order : (p : ℕ) (y : Placed) (held : List Placed) → Distinct (map order_of held) → find (stands_at p) held ≡ Some y → find (λ (x : Placed). x.holding.order == y.holding.order) held ≡ Some y
found_by_order p y [] o h = absurd (cc)
found_by_order p y (x ∷ xs) o h =
    ⊎_elim
    (λ e. let found : Some x ≡ Some y = sym (ap (λ t. cond t (Some x) (find (stands_at p) xs)) e) ∙ h in
    let same : x ≡ y = cc in
    ap (λ t. cond t (Some x) (find (λ (z : Placed). z.holding.order == y.holding.order) xs)) (eq-eqb x.holding.order y.holding.order (ap (λ (z : Placed). z.holding.order) same)) ∙ found)
    (λ e. let later = sym (ap (λ t. cond t (Some x) (find (stands_at p) xs)) e) ∙ h in
    ap (λ t. cond t (Some x) (find (λ (z : Placed). z.holding.order == y.holding.order) xs)) (head_other y.holding.order x.holding.order (map order_of xs) o.0 (order_stands p y xs later)) ∙ found_by_order p y xs o.1 later)
    (cases_Bool (stands_at p x))

pub live_slot : (capacity room chains : ℕ) (held : List Held) (w : Waiting) (ws : List Waiting) → IsStore capacity room chains held (w ∷ ws) → list_any (buffer.is_at w.place.0) held ≡ true
live_slot capacity room chains held w ws s =
    any_shown chains w.place.0 held
    ∙ any_weaker (waits_at w.place.0) (stands_at w.place.0) (λ x e. (and_parts (stands_at w.place.0 x) (waits x) e).0) (map (placed_in chains) held) (first_live capacity room (map (placed_in chains) held) w ws s.stored)
