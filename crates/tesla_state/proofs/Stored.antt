-- Packets in their slots, through a mark or a removal.
use Rattle.std.proofs.Common.{◌≡◌, ℕ, ◌+◌, ◌<◌, ◌≤◌, Bool, true, false, cond, ◌&&◌, ◌||◌, List, [], ◌∷◌, ◌++◌, length, map, take, Option, Some, None, refl, sym, ap, subst, ⊎_elim, ◌∙◌, arith, ◌==◌}
use Rattle.std.specs.Prelude.{not, find, option_map, All}
use Rattle.std.specs.List.{list_any, list_all, filter}
use Rattle.std.proofs.lemmas.Bool.{cases_Bool, and_parts, and_from, and_left, or_cases, or_left, or_right, or_from, both_ways, eqb-true, ne_eqb, eq-eqb, not-true, false_from_ne_true, not-false}
use Rattle.std.proofs.lemmas.List.Folds.{list_any-append}
use Rattle.std.proofs.lemmas.Option.{none-some, same_Some}
use Rattle.std.proofs.lemmas.List.Elements.{All-cons, All-filter, All-map, All-nil, All-weaker, All-head, All-tail, All-push}
use Rattle.tesla_base.proofs.Lists.{list_all_weaker, list_all_both}
use Rattle.tesla_base.specs.declared.names.Name.{Name}
use Rattle.tesla_base.specs.declared.names.WideTag.{WideTag}
use Rattle.tesla_base.specs.Tag.{tag_bytes, wide_tag}
use Rattle.tesla_base.proofs.Tags.{bytes_of_wide}
use Rattle.tesla_buffer.specs.declared.item.Item.{Item}
use Rattle.tesla_buffer.specs.Held.{Held, changed, is_resting, wide_tag_in, IsMadeOf}
use Rattle.tesla_frame.specs.Frame.{DataFrame, TagRow}
use Rattle.tesla_fitting.specs.Rows.{tag_in}
use Rattle.tesla_buffer.specs.Held as buffer
use Rattle.tesla_base.specs.Members.{is_in, Distinct}
use Rattle.tesla_base.proofs.Filtered.{all_filtered, filter-map}
use Rattle.tesla_release.specs.declared.queue.Waiting.{Waiting}
use Rattle.tesla_walks.specs.declared.ordering.Proved.{Proved}
use Rattle.tesla_walks.specs.declared.release.Release.{Release}
use Rattle.tesla_walks.specs.ItemShown.{holding_in, IsFilled, IsItem}
use Rattle.tesla_walks.specs.Holding.{Holding}
use Rattle.tesla_state.specs.Stored.{Placed, placed_in, slot_of, stands_at, release_by, release_in, waits, waits_at, rests_at, is_sound, is_proved_by, with_released, without, slot_in, IsStored, IsStore, IsItemOf, is_of, first_slot, next_slot, is_unreleased_at, is_unreleased_of, next_unreleased}
use Rattle.tesla_state.proofs.Marked.{any_mapped, all_mapped, map_mapped, find_mapped, any_filtered, find_filtered, any_with_all, any_weaker}

-- ---- slots that differ

at_slot : (p : ℕ) (f : Placed → Bool) (held : List Placed) → list_any (λ x. stands_at p x && f x) held ≡ true → is_in p (map slot_of held) ≡ true
at_slot p f [] h = absurd (cc)
at_slot p f (x ∷ xs) h =
    ⊎_elim
    (λ e. or_left (x.place == p) (is_in p (map slot_of xs)) (and_parts (x.place == p) (f x) e).0)
    (λ e. or_right (x.place == p) (is_in p (map slot_of xs)) (at_slot p f xs e))
    (or_cases (stands_at p x && f x) (list_any (λ y. stands_at p y && f y) xs) h)

apart : (p : ℕ) (x : Placed) (xs : List Placed) → is_in x.place (map slot_of xs) ≡ false → (x.place == p) ≡ true → is_in p (map slot_of xs) ≡ true → ⊥
apart p x xs none here there =
    both_ways (is_in x.place (map slot_of xs)) none (ap (λ (n : ℕ). is_in n (map slot_of xs)) (eqb-true x.place p here) ∙ there)

-- one slot doesn't have packets of two kinds
pub not_both : (p : ℕ) (f g : Placed → Bool) → ((x : Placed) → f x ≡ true → g x ≡ true → ⊥) → (held : List Placed) → Distinct (map slot_of held) → list_any (λ x. stands_at p x && f x) held ≡ true → list_any (λ x. stands_at p x && g x) held ≡ true → ⊥
not_both p f g clash [] d a b = absurd (cc)
not_both p f g clash (x ∷ xs) d a b =
    ⊎_elim
    (λ e. let u = and_parts (stands_at p x) (f x) e in
    ⊎_elim
    (λ k. clash x u.1 (and_parts (stands_at p x) (g x) k).1)
    (λ k. apart p x xs d.0 u.0 (at_slot p g xs k))
    (or_cases (stands_at p x && g x) (list_any (λ y. stands_at p y && g y) xs) b))
    (λ e. ⊎_elim
    (λ k. apart p x xs d.0 (and_parts (stands_at p x) (g x) k).0 (at_slot p f xs e))
    (λ k. not_both p f g clash xs d.1 e k)
    (or_cases (stands_at p x && g x) (list_any (λ y. stands_at p y && g y) xs) b))
    (or_cases (stands_at p x && f x) (list_any (λ y. stands_at p y && f y) xs) a)

in_kept : (n : ℕ) (keep : Placed → Bool) (held : List Placed) → is_in n (map slot_of held) ≡ false → is_in n (map slot_of (filter keep held)) ≡ false
in_kept n keep [] h = refl
in_kept n keep (x ∷ xs) h =
    let first : (x.place == n) ≡ false = false_from_ne_true (x.place == n) (λ e. both_ways (is_in n (map slot_of (x ∷ xs))) h (or_left (x.place == n) (is_in n (map slot_of xs)) e)) in
    let rest : is_in n (map slot_of xs) ≡ false = sym (ap (λ t. t || is_in n (map slot_of xs)) first) ∙ h in
    ⊎_elim
    (λ e. ap (λ t. is_in n (map slot_of (cond t (x ∷ filter keep xs) (filter keep xs)))) e ∙ ap (λ t. t || is_in n (map slot_of (filter keep xs))) first ∙ in_kept n keep xs rest)
    (λ e. ap (λ t. is_in n (map slot_of (cond t (x ∷ filter keep xs) (filter keep xs)))) e ∙ in_kept n keep xs rest)
    (cases_Bool (keep x))

pub distinct_kept : (keep : Placed → Bool) (held : List Placed) → Distinct (map slot_of held) → Distinct (map slot_of (filter keep held))
distinct_kept keep [] d = tt
distinct_kept keep (x ∷ xs) d =
    ⊎_elim
    (λ e. subst (λ t. Distinct (map slot_of (cond t (x ∷ filter keep xs) (filter keep xs)))) (sym e) (in_kept x.place keep xs d.0, distinct_kept keep xs d.1))
    (λ e. subst (λ t. Distinct (map slot_of (cond t (x ∷ filter keep xs) (filter keep xs)))) (sym e) (distinct_kept keep xs d.1))
    (cases_Bool (keep x))

-- so many slots that differ, of packets that are held, are as many packets at most
other_slot : (p q : ℕ) → (q == p) ≡ false → (x : Placed) → not (stands_at p x) ≡ false → stands_at q x ≡ false
other_slot p q other x h =
    ne_eqb x.place q (λ e. both_ways (q == p) other (eq-eqb q p (sym e ∙ eqb-true x.place p (not-false (x.place == p) h))))

pub shorter : (p : ℕ) (held : List Placed) → length (without p held) ≤ length held
shorter p [] = omega arith
shorter p (x ∷ xs) =
    let rest = shorter p xs in
    ⊎_elim
    (λ e. subst (λ t. length (cond (not t) (x ∷ without p xs) (without p xs)) ≤ length (x ∷ xs)) (sym e) (omega arith))
    (λ e. subst (λ t. length (cond (not t) (x ∷ without p xs) (without p xs)) ≤ length (x ∷ xs)) (sym e) (omega arith))
    (cases_Bool (stands_at p x))

pub one_less : (p : ℕ) (held : List Placed) → list_any (stands_at p) held ≡ true → length (without p held) < length held
one_less p [] h = absurd (cc)
one_less p (x ∷ xs) h =
    ⊎_elim
    (λ e. subst (λ t. length (cond (not t) (x ∷ without p xs) (without p xs)) < length (x ∷ xs)) (sym e) (omega (arith, shorter p xs)))
    (λ e. let rest = one_less p xs (sym (ap (λ t. t || list_any (stands_at p) xs) e) ∙ h) in
    subst (λ t. length (cond (not t) (x ∷ without p xs) (without p xs)) < length (x ∷ xs)) (sym e) (omega arith))
    (cases_Bool (stands_at p x))

others_stand : (p : ℕ) (ps : List ℕ) (held : List Placed) → is_in p ps ≡ false → list_all (λ q. list_any (stands_at q) held) ps ≡ true → list_all (λ q. list_any (stands_at q) (without p held)) ps ≡ true
others_stand p [] held none h = refl
others_stand p (q ∷ qs) held none h =
    let first : (q == p) ≡ false = false_from_ne_true (q == p) (λ e. both_ways (is_in p (q ∷ qs)) none (or_left (q == p) (is_in p qs) e)) in
    let rest : is_in p qs ≡ false = sym (ap (λ t. t || is_in p qs) first) ∙ none in
    let parts = and_parts (list_any (stands_at q) held) (list_all (λ k. list_any (stands_at k) held) qs) h in
    and_from (list_any (stands_at q) (without p held)) (list_all (λ k. list_any (stands_at k) (without p held)) qs)
    (any_filtered (stands_at q) (λ x. not (stands_at p x)) (other_slot p q first) held ∙ parts.0)
    (others_stand p qs held rest parts.1)

pub few_slots : (ps : List ℕ) (held : List Placed) → Distinct ps → list_all (λ q. list_any (stands_at q) held) ps ≡ true → length ps ≤ length held
few_slots [] held d h = omega arith
few_slots (p ∷ ps) held d h =
    let parts = and_parts (list_any (stands_at p) held) (list_all (λ k. list_any (stands_at k) held) ps) h in
    let less = one_less p held parts.0 in
    let rest = few_slots ps (without p held) d.1 (others_stand p ps held d.0 parts.1) in
    omega arith

-- ---- what waits

-- the slot of a packet that doesn't wait isn't among those that wait
pub rests_apart : (p : ℕ) (held : List Placed) (waiting : List Waiting) → Distinct (map slot_of held) → list_any (rests_at p) held ≡ true → list_all (λ entry. list_any (waits_at entry.place.0) held) waiting ≡ true → is_in p (map slot_in waiting) ≡ false
rests_apart p held [] d r h = refl
rests_apart p held (w ∷ ws) d r h =
    let parts = and_parts (list_any (waits_at w.place.0) held) (list_all (λ entry. list_any (waits_at entry.place.0) held) ws) h in
    let first : (w.place.0 == p) ≡ false = false_from_ne_true (w.place.0 == p) (λ e.
    not_both p (λ x. not (waits x)) waits (λ x a b. both_ways (waits x) (not-true (waits x) a) b) held d r
    (ap (λ (n : ℕ). list_any (waits_at n) held) (sym (eqb-true w.place.0 p e)) ∙ parts.0)) in
    ap (λ t. t || is_in p (map slot_in ws)) first ∙ rests_apart p held ws d r parts.1

-- a packet that is released counts among those that wait
pub releases_kept : (p : ℕ) (held : List Placed) (waiting : List Waiting) → is_in p (map slot_in waiting) ≡ false → map (release_in (without p held)) waiting ≡ map (release_in held) waiting
releases_kept p held [] none = refl
releases_kept p held (w ∷ ws) none =
    let first : (w.place.0 == p) ≡ false = false_from_ne_true (w.place.0 == p) (λ e. both_ways (is_in p (map slot_in (w ∷ ws))) none (or_left (w.place.0 == p) (is_in p (map slot_in ws)) e)) in
    let rest : is_in p (map slot_in ws) ≡ false = sym (ap (λ t. t || is_in p (map slot_in ws)) first) ∙ none in
    ap (λ o. release_by w.chain o ∷ map (release_in (without p held)) ws) (find_filtered (stands_at w.place.0) (λ x. not (stands_at p x)) (other_slot p w.place.0 first) held)
    ∙ ap (λ rs. release_in held w ∷ rs) (releases_kept p held ws rest)

release_marked : (chain : ℕ) (m : Placed → Placed) → ((x : Placed) → release_by chain (Some (m x)) ≡ release_by chain (Some x)) → (o : Option Placed) → release_by chain (option_map m o) ≡ release_by chain o
release_marked chain m same None = refl
release_marked chain m same (Some x) = same x

found_step : (b : Bool) (m : Placed → Placed) (x : Placed) (o : Option Placed) → cond b (Some (m x)) (option_map m o) ≡ option_map m (cond b (Some x) o)
found_step true m x o = refl
found_step false m x o = refl

found_marked : (q : ℕ) (m : Placed → Placed) → ((x : Placed) → (m x).place ≡ x.place) → (held : List Placed) → find (stands_at q) (map m held) ≡ option_map m (find (stands_at q) held)
found_marked q m same [] = refl
found_marked q m same (x ∷ xs) =
    ap (λ (n : ℕ). cond (n == q) (Some (m x)) (find (stands_at q) (map m xs))) (same x) ∙ ap (λ o. cond (x.place == q) (Some (m x)) o) (found_marked q m same xs)
    ∙ found_step (x.place == q) m x (find (stands_at q) xs)

pub releases_marked : (m : Placed → Placed) → ((x : Placed) → (m x).place ≡ x.place) → ((chain : ℕ) (x : Placed) → release_by chain (Some (m x)) ≡ release_by chain (Some x)) → (held : List Placed) (waiting : List Waiting) → map (release_in (map m held)) waiting ≡ map (release_in held) waiting
releases_marked m slot same held [] = refl
releases_marked m slot same held (w ∷ ws) =
    ap (λ o. release_by w.chain o ∷ map (release_in (map m held)) ws) (found_marked w.place.0 m slot held)
    ∙ ap (λ r. r ∷ map (release_in (map m held)) ws) (release_marked w.chain m (same w.chain) (find (stands_at w.place.0) held))
    ∙ ap (λ rs. release_in held w ∷ rs) (releases_marked m slot same held ws)

-- ---- what is shown of a buffer's items

pub any_shown : (chains p : ℕ) (held : List Held) → list_any (buffer.is_at p) held ≡ list_any (stands_at p) (map (placed_in chains) held)
any_shown chains p held = sym (any_mapped (stands_at p) (buffer.is_at p) (placed_in chains) (λ x. refl) held)

pub without_shown : (chains p : ℕ) (held : List Held) → map (placed_in chains) (filter (λ x. not (buffer.is_at p x)) held) ≡ without p (map (placed_in chains) held)
without_shown chains p held = sym (filter-map (λ x. not (stands_at p x)) (placed_in chains) held)

marked_shown : (chains : ℕ) (b : Bool) (x : Held) → placed_in chains (cond b (record { place = x.place; item = record x.item { released = true } }) x) ≡ cond b (record (placed_in chains x) { holding = record (placed_in chains x).holding { released = true } }) (placed_in chains x)
marked_shown chains true x = refl
marked_shown chains false x = refl

pub released_shown : (chains p : ℕ) (held : List Held) → map (placed_in chains) (changed p (λ item. record item { released = true }) held) ≡ map (with_released p) (map (placed_in chains) held)
released_shown chains p held =
    map_mapped (placed_in chains) (λ (h : Held). cond (buffer.is_at p h) (record { place = h.place; item = record h.item { released = true } }) h) (λ x. with_released p (placed_in chains x)) (λ x. marked_shown chains (x.place == p) x) held
    ∙ sym (map_mapped (with_released p) (placed_in chains) (λ x. with_released p (placed_in chains x)) (λ x. refl) held)

-- ---- the invariant, through each change

pub live_kept : (p : ℕ) (held : List Placed) (waiting : List Waiting) → is_in p (map slot_in waiting) ≡ false → list_all (λ entry. list_any (waits_at entry.place.0) held) waiting ≡ true → list_all (λ entry. list_any (waits_at entry.place.0) (without p held)) waiting ≡ true
live_kept p held [] none h = refl
live_kept p held (w ∷ ws) none h =
    let first : (w.place.0 == p) ≡ false = false_from_ne_true (w.place.0 == p) (λ e. both_ways (is_in p (map slot_in (w ∷ ws))) none (or_left (w.place.0 == p) (is_in p (map slot_in ws)) e)) in
    let rest : is_in p (map slot_in ws) ≡ false = sym (ap (λ t. t || is_in p (map slot_in ws)) first) ∙ none in
    let parts = and_parts (list_any (waits_at w.place.0) held) (list_all (λ entry. list_any (waits_at entry.place.0) held) ws) h in
    and_from (list_any (waits_at w.place.0) (without p held)) (list_all (λ entry. list_any (waits_at entry.place.0) (without p held)) ws)
    (any_filtered (waits_at w.place.0) (λ x. not (stands_at p x)) (λ x e. and_left (stands_at w.place.0 x) (waits x) (other_slot p w.place.0 first x e)) held ∙ parts.0)
    (live_kept p held ws rest parts.1)

-- a packet goes that no entry waits for
pub gone_stored : (capacity room p : ℕ) (held : List Placed) (waiting : List Waiting) → IsStored capacity room held waiting → is_in p (map slot_in waiting) ≡ false → IsStored capacity room (without p held) waiting
gone_stored capacity room p held waiting s none = record {
  few = s.few;
  fits = (let fewer = shorter p held in let fits = s.fits in omega arith);
  same = s.same;
  distinct = distinct_kept (λ x. not (stands_at p x)) held s.distinct;
  sound = all_filtered is_sound (λ x. not (stands_at p x)) held s.sound;
  once = s.once;
  live = live_kept p held waiting none s.live;
}

pub without_stored : (capacity room p : ℕ) (held : List Placed) (waiting : List Waiting) → IsStored capacity room held waiting → list_any (rests_at p) held ≡ true → IsStored capacity room (without p held) waiting
without_stored capacity room p held waiting s h = gone_stored capacity room p held waiting s (rests_apart p held waiting s.distinct h s.live)

all_marked : (f g : Placed → Bool) (m : Placed → Placed) → ((x : Placed) → g x ≡ true → f (m x) ≡ true) → (held : List Placed) → list_all g held ≡ true → list_all f (map m held) ≡ true
all_marked f g m gives held h = all_mapped f (λ x. f (m x)) m (λ x. refl) held ∙ list_all_weaker g (λ x. f (m x)) held gives h

any_marked : (f g : Placed → Bool) (m : Placed → Placed) → ((x : Placed) → g x ≡ true → f (m x) ≡ true) → (held : List Placed) → list_any g held ≡ true → list_any f (map m held) ≡ true
any_marked f g m gives held h = any_mapped f (λ x. f (m x)) m (λ x. refl) held ∙ any_weaker g (λ x. f (m x)) gives held h

in_pushed : (n p : ℕ) (xs : List ℕ) → is_in n xs ≡ false → (p == n) ≡ false → is_in n (xs ++ p ∷ []) ≡ false
in_pushed n p xs none other = list_any-append (λ x. x == n) xs (p ∷ []) ∙ or_from (is_in n xs) (is_in n (p ∷ [])) none (ap (λ t. t || false) other)

distinct_pushed : (p : ℕ) (xs : List ℕ) → Distinct xs → is_in p xs ≡ false → Distinct (xs ++ p ∷ [])
distinct_pushed p [] d h = (refl, tt)
distinct_pushed p (x ∷ xs) d h =
    let first : (x == p) ≡ false = false_from_ne_true (x == p) (λ e. both_ways (is_in p (x ∷ xs)) h (or_left (x == p) (is_in p xs) e)) in
    let rest : is_in p xs ≡ false = sym (ap (λ t. t || is_in p xs) first) ∙ h in
    (in_pushed x p xs d.0 (ne_eqb p x (λ e. both_ways (x == p) first (eq-eqb x p (sym e)))), distinct_pushed p xs d.1 rest)

marked_slot : (b : Bool) (x : Placed) → (cond b (record x { holding = record x.holding { released = true } }) x).place ≡ x.place
marked_slot true x = refl
marked_slot false x = refl

pub released_slot : (p : ℕ) (x : Placed) → (with_released p x).place ≡ x.place
released_slot p x = marked_slot (x.place == p) x

marked_release : (chain : ℕ) (b : Bool) (x : Placed) → release_by chain (Some (cond b (record x { holding = record x.holding { released = true } }) x)) ≡ release_by chain (Some x)
marked_release chain true x = refl
marked_release chain false x = refl

pub released_release : (p chain : ℕ) (x : Placed) → release_by chain (Some (with_released p x)) ≡ release_by chain (Some x)
released_release p chain x = marked_release chain (x.place == p) x

marked_sound : (b : Bool) (x : Placed) → is_sound x ≡ true → is_sound (cond b (record x { holding = record x.holding { released = true } }) x) ≡ true
marked_sound true x h = refl
marked_sound false x h = h

marked_waits : (q : ℕ) (b : Bool) (x : Placed) → waits_at q x ≡ true → waits_at q (cond b (record x { holding = record x.holding { released = true } }) x) ≡ true
marked_waits q true x h = let parts = and_parts (stands_at q x) (waits x) h in and_from (stands_at q x) (not x.holding.taken) parts.0 (and_parts x.holding.released (not x.holding.taken) parts.1).1
marked_waits q false x h = h

-- the packet stands there and wasn't taken
abbrev untaken_at : ℕ → Placed → Bool
untaken_at p x = stands_at p x && not x.holding.taken

marked_here : (p : ℕ) (b : Bool) (x : Placed) → b ≡ true → untaken_at p x ≡ true → waits_at p (cond b (record x { holding = record x.holding { released = true } }) x) ≡ true
marked_here p true x e h = h
marked_here p false x e h = absurd (cc)

untaken : (proved : Proved) (x : Placed) → is_proved_by proved x ≡ true → is_sound x ≡ true → untaken_at proved.place.0 x ≡ true
untaken proved x h s =
    let parts = and_parts (stands_at proved.place.0 x) (not x.holding.released && (x.holding.order == proved.release.place && (x.holding.name.interval == proved.release.name.interval && x.holding.name.number == proved.release.name.number))) h in
    let unreleased = (and_parts (not x.holding.released) (x.holding.order == proved.release.place && (x.holding.name.interval == proved.release.name.interval && x.holding.name.number == proved.release.name.number)) parts.1).0 in
    and_from (stands_at proved.place.0 x) (not x.holding.taken) parts.0
    (sym (ap (λ t. t || not x.holding.taken) (not-true x.holding.released unreleased)) ∙ s)

-- the packet that is proved stands there and doesn't wait
rests_unreleased : (proved : Proved) (x : Placed) → is_proved_by proved x ≡ true → rests_at proved.place.0 x ≡ true
rests_unreleased proved x h =
    let parts = and_parts (stands_at proved.place.0 x) (not x.holding.released && (x.holding.order == proved.release.place && (x.holding.name.interval == proved.release.name.interval && x.holding.name.number == proved.release.name.number))) h in
    let unreleased = (and_parts (not x.holding.released) (x.holding.order == proved.release.place && (x.holding.name.interval == proved.release.name.interval && x.holding.name.number == proved.release.name.number)) parts.1).0 in
    and_from (stands_at proved.place.0 x) (not (waits x)) parts.0 (ap (λ t. not (t && not x.holding.taken)) (not-true x.holding.released unreleased))

pub proved_rests : (proved : Proved) (held : List Placed) → list_any (is_proved_by proved) held ≡ true → list_any (rests_at proved.place.0) held ≡ true
proved_rests proved held h = any_weaker (is_proved_by proved) (rests_at proved.place.0) (rests_unreleased proved) held h

pub rests_stands : (p : ℕ) (held : List Placed) → list_any (rests_at p) held ≡ true → list_any (stands_at p) held ≡ true
rests_stands p held h = any_weaker (rests_at p) (stands_at p) (λ x e. (and_parts (stands_at p x) (not (waits x)) e).0) held h

map-append_slots : (waiting : List Waiting) (w : Waiting) → map slot_in (waiting ++ w ∷ []) ≡ map slot_in waiting ++ w.place.0 ∷ []
map-append_slots [] w = refl
map-append_slots (x ∷ xs) w = ap (λ ys. x.place.0 ∷ ys) (map-append_slots xs w)

pub length-marked : (m : Placed → Placed) (held : List Placed) → length (map m held) ≡ length held
length-marked m [] = refl
length-marked m (x ∷ xs) = let rest = length-marked m xs in omega arith

pub released_stored : (capacity room : ℕ) (proved : Proved) (w : Waiting) (held : List Placed) (waiting : List Waiting) → w.place.0 ≡ proved.place.0 → IsStored capacity room held waiting → list_any (is_proved_by proved) held ≡ true → IsStored capacity room (map (with_released proved.place.0) held) (waiting ++ w ∷ [])
released_stored capacity room proved w held waiting here s h =
    let p : ℕ = proved.place.0 in
    let m : Placed → Placed = with_released p in
    let new : is_in w.place.0 (map slot_in waiting) ≡ false = ap (λ (n : ℕ). is_in n (map slot_in waiting)) here ∙ rests_apart p held waiting s.distinct (proved_rests proved held h) s.live in
    record {
      few = s.few;
      fits = (let long = length-marked m held in let fits = s.fits in omega arith);
      same = s.same;
      distinct = subst Distinct (sym (map_mapped slot_of m slot_of (released_slot p) held)) s.distinct;
      sound = all_marked is_sound is_sound m (λ x e. marked_sound (x.place == p) x e) held s.sound;
      once = subst Distinct (sym (map-append_slots waiting w)) (distinct_pushed w.place.0 (map slot_in waiting) s.once new);
      live = list_all_both (λ entry. list_any (waits_at entry.place.0) (map m held)) waiting (w ∷ [])
          (list_all_weaker (λ entry. list_any (waits_at entry.place.0) held) (λ entry. list_any (waits_at entry.place.0) (map m held)) waiting
          (λ entry e. any_marked (waits_at entry.place.0) (waits_at entry.place.0) m (λ x k. marked_waits entry.place.0 (x.place == p) x k) held e) s.live)
          (and_from (list_any (waits_at w.place.0) (map m held)) true
          (ap (λ (n : ℕ). list_any (waits_at n) (map m held)) here
          ∙ any_marked (waits_at p) (untaken_at p) m (λ x k. marked_here p (x.place == p) x (and_parts (stands_at p x) (not x.holding.taken) k).0 k) held
          (any_with_all (is_proved_by proved) is_sound (untaken_at p) (untaken proved) held h s.sound)) refl);
    }

length-slots : (waiting : List Waiting) → length (map slot_in waiting) ≡ length waiting
length-slots [] = refl
length-slots (x ∷ xs) = let rest = length-slots xs in omega arith

all_slots : (held : List Placed) (waiting : List Waiting) → list_all (λ entry. list_any (waits_at entry.place.0) held) waiting ≡ true → list_all (λ q. list_any (stands_at q) held) (map slot_in waiting) ≡ true
all_slots held [] h = refl
all_slots held (w ∷ ws) h =
    let parts = and_parts (list_any (waits_at w.place.0) held) (list_all (λ entry. list_any (waits_at entry.place.0) held) ws) h in
    and_from (list_any (stands_at w.place.0) held) (list_all (λ q. list_any (stands_at q) held) (map slot_in ws))
    (any_weaker (waits_at w.place.0) (stands_at w.place.0) (λ x e. (and_parts (stands_at w.place.0 x) (waits x) e).0) held parts.0) (all_slots held ws parts.1)

-- one more can wait than those that do, where a packet doesn't
pub room_for : (capacity room p : ℕ) (held : List Placed) (waiting : List Waiting) → IsStored capacity room held waiting → list_any (rests_at p) held ≡ true → length waiting < room
room_for capacity room p held waiting s h =
    let slots : List ℕ = map slot_in waiting in
    let stand : list_all (λ q. list_any (stands_at q) held) slots ≡ true =
    all_slots held waiting s.live in
    let few : length (p ∷ slots) ≤ length held = few_slots (p ∷ slots) held (rests_apart p held waiting s.distinct h s.live, s.once)
    (and_from (list_any (stands_at p) held) (list_all (λ q. list_any (stands_at q) held) slots) (rests_stands p held h) stand) in
    let long : length slots ≡ length waiting = length-slots waiting in
    let fits = s.fits in
    let same = s.same in
    omega arith

-- the packet that is proved is found in its slot
abbrev release_of_parts : ℕ → ℕ → ℕ → ℕ → Release
release_of_parts o i n c = record { place = o; name = record { interval = i; number = n }; chain = record { 0 = c } }

same_release : (r : Release) (o i n : ℕ) → o ≡ r.place → i ≡ r.name.interval → n ≡ r.name.number → release_of_parts o i n r.chain.0 ≡ r
same_release r o i n a b c =
    ap (λ (k : ℕ). release_of_parts k i n r.chain.0) a ∙ ap (λ (k : ℕ). release_of_parts r.place k n r.chain.0) b ∙ ap (λ (k : ℕ). release_of_parts r.place r.name.interval k r.chain.0) c

proved_here : (proved : Proved) (x : Placed) → is_proved_by proved x ≡ true → release_by proved.release.chain.0 (Some x) ≡ proved.release
proved_here proved x h =
    let u = (and_parts (stands_at proved.place.0 x) (not x.holding.released && (x.holding.order == proved.release.place && (x.holding.name.interval == proved.release.name.interval && x.holding.name.number == proved.release.name.number))) h).1 in
    let v = (and_parts (not x.holding.released) (x.holding.order == proved.release.place && (x.holding.name.interval == proved.release.name.interval && x.holding.name.number == proved.release.name.number)) u).1 in
    let w = and_parts (x.holding.order == proved.release.place) (x.holding.name.interval == proved.release.name.interval && x.holding.name.number == proved.release.name.number) v in
    let n = and_parts (x.holding.name.interval == proved.release.name.interval) (x.holding.name.number == proved.release.name.number) w.1 in
    same_release proved.release x.holding.order x.holding.name.interval x.holding.name.number (eqb-true x.holding.order proved.release.place w.0) (eqb-true x.holding.name.interval proved.release.name.interval n.0) (eqb-true x.holding.name.number proved.release.name.number n.1)

stands_proved : (proved : Proved) (x : Placed) → is_proved_by proved x ≡ true → stands_at proved.place.0 x ≡ true
stands_proved proved x h = (and_parts (stands_at proved.place.0 x) (not x.holding.released && (x.holding.order == proved.release.place && (x.holding.name.interval == proved.release.name.interval && x.holding.name.number == proved.release.name.number))) h).0

pub proved_found : (proved : Proved) (held : List Placed) → Distinct (map slot_of held) → list_any (is_proved_by proved) held ≡ true → release_by proved.release.chain.0 (find (stands_at proved.place.0) held) ≡ proved.release
proved_found proved [] d h = absurd (cc)
proved_found proved (x ∷ xs) d h =
    ⊎_elim
    (λ e. ap (λ t. release_by proved.release.chain.0 (cond t (Some x) (find (stands_at proved.place.0) xs))) (stands_proved proved x e) ∙ proved_here proved x e)
    (λ e. let none : stands_at proved.place.0 x ≡ false = false_from_ne_true (stands_at proved.place.0 x) (λ k. apart proved.place.0 x xs d.0 k (at_slot proved.place.0 (λ y. not (waits y)) xs (proved_rests proved xs e))) in
    ap (λ t. release_by proved.release.chain.0 (cond t (Some x) (find (stands_at proved.place.0) xs))) none ∙ proved_found proved xs d.1 e)
    (or_cases (is_proved_by proved x) (list_any (is_proved_by proved) xs) h)

map-append_releases : (f : Waiting → Release) (waiting : List Waiting) (w : Waiting) → map f (waiting ++ w ∷ []) ≡ map f waiting ++ f w ∷ []
map-append_releases f [] w = refl
map-append_releases f (x ∷ xs) w = ap (λ ys. f x ∷ ys) (map-append_releases f xs w)

pub released_waiting : (proved : Proved) (w : Waiting) (held : List Placed) (waiting : List Waiting) → w ≡ record { place = proved.place; chain = proved.release.chain.0 } → Distinct (map slot_of held) → list_any (is_proved_by proved) held ≡ true → map (release_in (map (with_released proved.place.0) held)) (waiting ++ w ∷ []) ≡ map (release_in held) waiting ++ proved.release ∷ []
released_waiting proved w held waiting is d h =
    releases_marked (with_released proved.place.0) (released_slot proved.place.0) (released_release proved.place.0) held (waiting ++ w ∷ [])
    ∙ map-append_releases (release_in held) waiting w
    ∙ ap (λ r. map (release_in held) waiting ++ r ∷ []) (ap (release_in held) is ∙ proved_found proved held d h)

pub length-shown : (chains : ℕ) (held : List Held) → length (map (placed_in chains) held) ≡ length held
length-shown chains [] = refl
length-shown chains (x ∷ xs) = let rest = length-shown chains xs in omega arith

-- ---- with the items

pub without_store : (capacity room chains p : ℕ) (held : List Held) (waiting : List Waiting) → IsStore capacity room chains held waiting → list_any (rests_at p) (map (placed_in chains) held) ≡ true → IsStore capacity room chains (filter (λ x. not (buffer.is_at p x)) held) waiting
without_store capacity room chains p held waiting s h = record {
  stored = subst (λ (xs : List Placed). IsStored capacity room xs waiting) (sym (without_shown chains p held)) (without_stored capacity room p (map (placed_in chains) held) waiting s.stored h);
  items = All-filter (λ x. not (buffer.is_at p x)) (IsItemOf chains) held s.items;
}

item_marked : (chains : ℕ) (b : Bool) (x : Held) → IsItemOf chains x → IsItemOf chains (cond b (record { place = x.place; item = record x.item { released = true } }) x)
item_marked chains true x h = record { few = h.few; payload = h.payload; tags = h.tags }
item_marked chains false x h = h

pub released_store : (capacity room chains : ℕ) (proved : Proved) (w : Waiting) (held : List Held) (waiting : List Waiting) → w.place.0 ≡ proved.place.0 → IsStore capacity room chains held waiting → list_any (is_proved_by proved) (map (placed_in chains) held) ≡ true → IsStore capacity room chains (changed proved.place.0 (λ item. record item { released = true }) held) (waiting ++ w ∷ [])
released_store capacity room chains proved w held waiting here s h = record {
  stored = subst (λ (xs : List Placed). IsStored capacity room xs (waiting ++ w ∷ [])) (sym (released_shown chains proved.place.0 held)) (released_stored capacity room proved w (map (placed_in chains) held) waiting here s.stored h);
  items = All-map (IsItemOf chains) (λ (x : Held). cond (buffer.is_at proved.place.0 x) (record { place = x.place; item = record x.item { released = true } }) x) held
      (All-weaker (IsItemOf chains) (λ x. IsItemOf chains (cond (buffer.is_at proved.place.0 x) (record { place = x.place; item = record x.item { released = true } }) x)) (λ x k. item_marked chains (buffer.is_at proved.place.0 x) x k) held s.items);
}

-- ---- what is found

pub found_shown : (chains p : ℕ) (held : List Held) → find (stands_at p) (map (placed_in chains) held) ≡ option_map (placed_in chains) (find (buffer.is_at p) held)
found_shown chains p held = find_mapped (stands_at p) (placed_in chains) held

some_same : {A : Type 0} (x y : A) → Some x ≡ Some y → x ≡ y
some_same x y h = cc

pub found_passes : {A : Type 0} (P : A → Type 0) (f : A → Bool) (xs : List A) (x : A) → All P xs → find f xs ≡ Some x → P x
found_passes P f [] x all h = absurd (cc)
found_passes P f (y ∷ ys) x all h =
    ⊎_elim
    (λ e. subst P (some_same y x (sym (ap (λ t. cond t (Some y) (find f ys)) e) ∙ h)) (All-head P y ys all))
    (λ e. found_passes P f ys x (All-tail P y ys all) (sym (ap (λ t. cond t (Some y) (find f ys)) e) ∙ h))
    (cases_Bool (f y))

pub firsts_shown : (chains : ℕ) (held : List Held) → first_slot (map (placed_in chains) held) ≡ buffer.first_slot held
firsts_shown chains [] = refl
firsts_shown chains (x ∷ xs) = refl

pub first_shown : (chains interval : ℕ) (held : List Held) → first_slot (filter (is_of interval) (map (placed_in chains) held)) ≡ buffer.first_slot (filter (buffer.is_of interval) held)
first_shown chains interval held = ap first_slot (filter-map (is_of interval) (placed_in chains) held) ∙ firsts_shown chains (filter (buffer.is_of interval) held)

pub next_shown : (chains p : ℕ) (held : List Held) → next_slot p (map (placed_in chains) held) ≡ buffer.next_slot p held
next_shown chains p [] = refl
next_shown chains p (x ∷ xs) =
    ap (λ o. cond (x.place == p) o (next_slot p (map (placed_in chains) xs))) (first_shown chains x.item.name.interval xs)
    ∙ ap (λ o. cond (x.place == p) (buffer.first_slot (filter (buffer.is_of x.item.name.interval) xs)) o) (next_shown chains p xs)

pub first_unreleased_shown : (chains interval : ℕ) (held : List Held) → first_slot (filter (is_unreleased_of interval) (map (placed_in chains) held)) ≡ buffer.first_slot (filter (buffer.is_unreleased_of interval) held)
first_unreleased_shown chains interval held = ap first_slot (filter-map (is_unreleased_of interval) (placed_in chains) held) ∙ firsts_shown chains (filter (buffer.is_unreleased_of interval) held)

pub next_unreleased_shown : (chains p : ℕ) (held : List Held) → next_unreleased p (map (placed_in chains) held) ≡ buffer.next_unreleased p held
next_unreleased_shown chains p [] = refl
next_unreleased_shown chains p (x ∷ xs) =
    ap (λ o. cond (x.place == p) o (next_unreleased p (map (placed_in chains) xs))) (first_unreleased_shown chains x.item.name.interval xs)
    ∙ ap (λ o. cond (x.place == p) (buffer.first_slot (filter (buffer.is_unreleased_of x.item.name.interval) xs)) o) (next_unreleased_shown chains p xs)

pub any_unreleased_shown : (chains p : ℕ) (held : List Held) → list_any (buffer.is_unreleased_at p) held ≡ list_any (is_unreleased_at p) (map (placed_in chains) held)
any_unreleased_shown chains p held = sym (any_mapped (is_unreleased_at p) (buffer.is_unreleased_at p) (placed_in chains) (λ y. refl) held)

-- ---- one more

find_before : {A : Type 0} (f : A → Bool) (xs ys : List A) → list_any f xs ≡ true → find f (xs ++ ys) ≡ find f xs
find_before f [] ys h = absurd (cc)
find_before f (x ∷ xs) ys h =
    ⊎_elim
    (λ e. ap (λ t. cond t (Some x) (find f (xs ++ ys))) e ∙ sym (ap (λ t. cond t (Some x) (find f xs)) e))
    (λ e. ap (λ o. cond (f x) (Some x) o) (find_before f xs ys (sym (ap (λ t. t || list_any f xs) e) ∙ h)))
    (cases_Bool (f x))

pub releases_pushed : (held : List Placed) (x : Placed) (waiting : List Waiting) → list_all (λ entry. list_any (waits_at entry.place.0) held) waiting ≡ true → map (release_in (held ++ x ∷ [])) waiting ≡ map (release_in held) waiting
releases_pushed held x [] h = refl
releases_pushed held x (w ∷ ws) h =
    let parts = and_parts (list_any (waits_at w.place.0) held) (list_all (λ entry. list_any (waits_at entry.place.0) held) ws) h in
    ap (λ o. release_by w.chain o ∷ map (release_in (held ++ x ∷ [])) ws)
    (find_before (stands_at w.place.0) held (x ∷ []) (any_weaker (waits_at w.place.0) (stands_at w.place.0) (λ y e. (and_parts (stands_at w.place.0 y) (waits y) e).0) held parts.0))
    ∙ ap (λ rs. release_in held w ∷ rs) (releases_pushed held x ws parts.1)

map-pushed : {A B : Type 0} (f : A → B) (xs : List A) (x : A) → map f (xs ++ x ∷ []) ≡ map f xs ++ f x ∷ []
map-pushed f [] x = refl
map-pushed f (y ∷ ys) x = ap (λ zs. f y ∷ zs) (map-pushed f ys x)

length-pushed : {A : Type 0} (xs : List A) (x : A) → length (xs ++ x ∷ []) ≡ length xs + 1
length-pushed [] x = omega arith
length-pushed (y ∷ ys) x = let rest = length-pushed ys x in omega arith

live_pushed : (held : List Placed) (x : Placed) (waiting : List Waiting) → list_all (λ entry. list_any (waits_at entry.place.0) held) waiting ≡ true → list_all (λ entry. list_any (waits_at entry.place.0) (held ++ x ∷ [])) waiting ≡ true
live_pushed held x waiting h =
    list_all_weaker (λ entry. list_any (waits_at entry.place.0) held) (λ entry. list_any (waits_at entry.place.0) (held ++ x ∷ [])) waiting
    (λ entry e. list_any-append (waits_at entry.place.0) held (x ∷ []) ∙ or_left (list_any (waits_at entry.place.0) held) (list_any (waits_at entry.place.0) (x ∷ [])) e) h

pushed_stored : (capacity room : ℕ) (held : List Placed) (x : Placed) (waiting : List Waiting) → IsStored capacity room held waiting → length held < capacity → list_any (stands_at x.place) held ≡ false → is_sound x ≡ true → IsStored capacity room (held ++ x ∷ []) waiting
pushed_stored capacity room held x waiting s fits vacant sound = record {
  few = s.few;
  fits = (let more = length-pushed held x in omega arith);
  same = s.same;
  distinct = subst Distinct (sym (map-pushed slot_of held x)) (distinct_pushed x.place (map slot_of held) s.distinct (any_mapped (λ n. n == x.place) (stands_at x.place) slot_of (λ y. refl) held ∙ vacant));
  sound = list_all_both is_sound held (x ∷ []) s.sound (and_from (is_sound x) true sound refl);
  once = s.once;
  live = live_pushed held x waiting s.live;
}

-- tags that are made of bytes have their rooms filled, and these bytes
filled_rooms : (rows : List TagRow) → All IsFilled (map wide_tag_in rows)
filled_rooms [] = All-nil IsFilled
filled_rooms (row ∷ rows) = All-cons IsFilled (wide_tag row.tag) (map wide_tag_in rows) (ap wide_tag (sym (bytes_of_wide row.tag))) (filled_rooms rows)

bytes_again : (rows : List TagRow) → map tag_bytes (map wide_tag_in rows) ≡ map tag_in rows
bytes_again [] = refl
bytes_again (row ∷ rows) = ap (λ b. b ∷ map tag_bytes (map wide_tag_in rows)) (bytes_of_wide row.tag) ∙ ap (λ bs. row.tag ∷ bs) (bytes_again rows)

abbrev holding_of_parts : ℕ → Name → ℕ → List ℕ → List (List ℕ) → Bool → Bool → Holding
holding_of_parts order named safe bytes given released taken = record { order = order; name = named; chains = safe; payload = bytes; tags = given; released = released; taken = taken }

module _ (chains order safe : ℕ) (frame : DataFrame) (item : Item) (made : IsMadeOf order safe frame item) (count : length frame.rows ≡ chains) where
  made_item : length frame.payload ≤ 1200 → length frame.rows ≤ 8 → IsItem chains item
  made_item size few = record {
    few = omega (arith, few, count);
    payload = (let long = made.size in omega (arith, long, size));
    tags = subst (λ (ts : List WideTag). All IsFilled ts) (sym (ap (λ (n : ℕ). take n item.tags) (sym count) ∙ made.tags)) (filled_rooms frame.rows);
  }

  -- an item as it is shown, by the parts that it was made of
  pub shown_made : holding_in chains item ≡ record { order = order; name = frame.name; chains = safe; payload = frame.payload; tags = map tag_in frame.rows; released = false; taken = false }
  shown_made =
      ap (λ (k : ℕ). holding_of_parts k item.name item.chains (take item.length item.payload) (map tag_bytes (take chains item.tags)) item.released item.taken) made.order
      ∙ ap (λ (k : Name). holding_of_parts order k item.chains (take item.length item.payload) (map tag_bytes (take chains item.tags)) item.released item.taken) made.name
      ∙ ap (λ (k : ℕ). holding_of_parts order frame.name k (take item.length item.payload) (map tag_bytes (take chains item.tags)) item.released item.taken) made.chains
      ∙ ap (λ (k : List ℕ). holding_of_parts order frame.name safe k (map tag_bytes (take chains item.tags)) item.released item.taken) (ap (λ (n : ℕ). take n item.payload) made.size ∙ made.payload)
      ∙ ap (λ (k : List WideTag). holding_of_parts order frame.name safe frame.payload (map tag_bytes k) item.released item.taken) (ap (λ (n : ℕ). take n item.tags) (sym count) ∙ made.tags)
      ∙ ap (λ (k : List (List ℕ)). holding_of_parts order frame.name safe frame.payload k item.released item.taken) (bytes_again frame.rows)
      ∙ ap (λ (k : Bool). holding_of_parts order frame.name safe frame.payload (map tag_in frame.rows) k item.taken) made.released
      ∙ ap (λ (k : Bool). holding_of_parts order frame.name safe frame.payload (map tag_in frame.rows) false k) made.taken

-- a packet rests where it doesn't wait
rests_unless_waits : (r t : Bool) → (not r || t) ≡ not (r && not t)
rests_unless_waits true true = refl
rests_unless_waits true false = refl
rests_unless_waits false t = refl

pub resting_shown : (chains : ℕ) (found : Option Held) (b : Bool) → option_map (λ h. is_resting h.item) found ≡ Some b → (x : Placed) × (option_map (placed_in chains) found ≡ Some x) × (b ≡ not (waits x))
resting_shown chains None b e = absurd (none-some b e)
resting_shown chains (Some h) b e = (placed_in chains h, refl, sym (same_Some (is_resting h.item) b e) ∙ rests_unless_waits h.item.released h.item.taken)

pub pushed_shown : (chains : ℕ) (held : List Held) (x : Held) → map (placed_in chains) (held ++ x ∷ []) ≡ map (placed_in chains) held ++ placed_in chains x ∷ []
pushed_shown chains held x = map-pushed (placed_in chains) held x

pub pushed_store : (capacity room chains p : ℕ) (item : Item) (held : List Held) (waiting : List Waiting) (order safe : ℕ) (frame : DataFrame) → IsStore capacity room chains held waiting → length held < capacity → list_any (buffer.is_at p) held ≡ false → IsMadeOf order safe frame item → length frame.payload ≤ 1200 → length frame.rows ≤ 8 → length frame.rows ≡ chains → IsStore capacity room chains (held ++ record { place = p; item = item } ∷ []) waiting
pushed_store capacity room chains p item held waiting order safe frame s fits vacant made size few count =
    let long = length-shown chains held in
    record {
      stored = subst (λ (xs : List Placed). IsStored capacity room xs waiting) (sym (pushed_shown chains held (record { place = p; item = item })))
          (pushed_stored capacity room (map (placed_in chains) held) (placed_in chains (record { place = p; item = item })) waiting s.stored (omega arith) (sym (any_shown chains p held) ∙ vacant)
          (ap (λ t. t || not item.taken) made.released ∙ ap not made.taken));
      items = All-push (IsItemOf chains) held (record { place = p; item = item }) s.items (made_item chains order safe frame item made count size few);
    }
