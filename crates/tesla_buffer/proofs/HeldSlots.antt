-- The packets of entries: what is found among them, and what changes of the slots leave.
use Rattle.std.proofs.Common.{◌≡◌, ℕ, ◌+◌, Bool, true, false, not, cond, ◌||◌, ◌&&◌, List, [], ◌∷◌, ◌++◌, length, map, Some, None, Option, refl, sym, ap, subst, ◌∙◌, arith, eqb, ⊎_elim}
use Rattle.std.specs.List.{filter, find, list_any}
use Rattle.std.proofs.lemmas.Bool.{and_from, and_parts, cases_Bool, cases_eq, cond-false, cond-true, eq-eqb, false≢true, ne_eqb, or_cases, or_left, or_right}
use Rattle.std.proofs.lemmas.List.{length-append, map-append}
use Rattle.std.proofs.lemmas.List.Folds.{list_any-append}
use Rattle.std.proofs.lemmas.Option.{none-some, same_Some}
use Rattle.tesla_base.specs.declared.names.Place.{Place}
use Rattle.tesla_buffer.specs.Held.{Held, changed, first_slot, is_at, is_live, is_of, is_unreleased_at, is_unreleased_of, next_slot, next_unreleased}
use Rattle.tesla_buffer.specs.Stored.{IsEntryOf, Keyed, held_at, item_at, entry_slots}
use Rattle.tesla_buffer.specs.declared.item.Item.{Item}
use Rattle.tesla_links.specs.Entries.{Entry}
use Rattle.tesla_links.specs.Entries.{first_slot as first_entry, is_at as entry_at, is_under, is_unmarked_at, is_unmarked_under, marked_at, next_slot as next_entry, next_unmarked}
use Rattle.tesla_base.specs.Members.{Distinct, is_in, without}
use Rattle.tesla_base.proofs.Filtered.{filter-map}
use Rattle.tesla_base.proofs.Members.{apart, in_cases, in_here, in_there, split_at, without_split}

-- ---- slots

-- a slot of those held is that of a packet
pub live_is : (slots : List Item) (p : ℕ) (es : List Entry) → is_live p (map (held_at slots) es) ≡ is_in p (entry_slots es)
live_is slots p [] = refl
live_is slots p (e ∷ es) = ap (λ b. eqb e.place p || b) (live_is slots p es)

-- and that of an entry
pub entry_is : (p : ℕ) (es : List Entry) → list_any (entry_at p) es ≡ is_in p (entry_slots es)
entry_is p [] = refl
entry_is p (e ∷ es) = ap (λ b. eqb e.place p || b) (entry_is p es)

-- the slots of packets are those of their entries
pub same_slots : (slots : List Item) (es : List Entry) → map (λ (h : Held). h.place) (map (held_at slots) es) ≡ entry_slots es
same_slots slots [] = refl
same_slots slots (e ∷ es) = ap (λ ps. e.place ∷ ps) (same_slots slots es)

-- without the entry of a slot
pub slots_without : (p : ℕ) (es : List Entry) → entry_slots (filter (λ e. not (entry_at p e)) es) ≡ without p (entry_slots es)
slots_without p es = sym (filter-map (λ x. not (eqb x p)) (λ (e : Entry). e.place) es)

-- one of distinct numbers fewer
pub length-without : (p : ℕ) (xs : List ℕ) → Distinct xs → is_in p xs ≡ true → length (without p xs) + 1 ≡ length xs
length-without p xs d i =
    let s = split_at p xs i in
    let distinct : Distinct (s.0 ++ p ∷ s.1) = subst (λ ys. Distinct ys) s.2 d in
    let left : without p xs ≡ s.0 ++ s.1 = ap (without p) s.2 ∙ without_split p s.0 s.1 distinct in
    omega (arith, ap length left, ap length s.2, length-append s.0 (p ∷ s.1), length-append s.0 s.1)

-- ---- the packet at a slot

-- the packet at a place is the item of its slot
pub find_live : (slots : List Item) (p : ℕ) (es : List Entry) → is_in p (entry_slots es) ≡ true → find (is_at p) (map (held_at slots) es) ≡ Some (record { place = p; item = item_at slots p })
find_live slots p [] i = absurd (false≢true i)
find_live slots p (e ∷ es) i =
    ⊎_elim
    (λ (s : e.place ≡ p). cond-true (eqb e.place p) (Some (held_at slots e)) (find (is_at p) (map (held_at slots) es)) (eq-eqb e.place p s) ∙ ap (λ q. Some (record { place = q; item = item_at slots q })) s)
    (λ (ne : e.place ≡ p → ⊥). cond-false (eqb e.place p) (Some (held_at slots e)) (find (is_at p) (map (held_at slots) es)) (ne_eqb e.place p ne)
    ∙ find_live slots p es (⊎_elim (λ (s : e.place ≡ p). absurd (ne s)) (λ (more : is_in p (entry_slots es) ≡ true). more) (in_cases e.place p (entry_slots es) i)))
    (cases_eq e.place p)

-- a packet that passes a test is at a slot of those held
pub any_held : (slots : List Item) (f : Held → Bool) (es : List Entry) → list_any f (map (held_at slots) es) ≡ true → (p : ℕ) × (is_in p (entry_slots es) ≡ true) × (f (record { place = p; item = item_at slots p }) ≡ true)
any_held slots f [] h = absurd (false≢true h)
any_held slots f (e ∷ es) h =
    ⊎_elim
    (λ (here : f (held_at slots e) ≡ true). (e.place, in_here e.place (entry_slots es), here))
    (λ (more : list_any f (map (held_at slots) es) ≡ true). let m = any_held slots f es more in (m.0, in_there e.place m.0 (entry_slots es) m.1, m.2))
    (or_cases (f (held_at slots e)) (list_any f (map (held_at slots) es)) h)

-- and the other way round
pub held_there : (slots : List Item) (f : Held → Bool) (p : ℕ) (es : List Entry) → is_in p (entry_slots es) ≡ true → f (record { place = p; item = item_at slots p }) ≡ true
    → list_any (λ h. is_at p h && f h) (map (held_at slots) es) ≡ true
held_there slots f p [] i t = i
held_there slots f p (e ∷ es) i t =
    let g = λ (h : Held). is_at p h && f h in
    ⊎_elim
    (λ (s : e.place ≡ p).
    or_left (g (held_at slots e)) (list_any g (map (held_at slots) es))
    (and_from (eqb e.place p) (f (held_at slots e)) (eq-eqb e.place p s) (ap (λ q. f (record { place = q; item = item_at slots q })) s ∙ t)))
    (λ (more : is_in p (entry_slots es) ≡ true). or_right (g (held_at slots e)) (list_any g (map (held_at slots) es)) (held_there slots f p es more t))
    (in_cases e.place p (entry_slots es) i)

-- ---- the packets of an interval

-- the packets that pass a test are those of the entries that pass another, where these agree on each entry of a packet
pub held_those : (slots : List Item) (t : Held → Bool) (f : Entry → Bool) → ((e : Entry) → IsEntryOf (item_at slots e.place) e → t (held_at slots e) ≡ f e)
    → (es : List Entry) → Keyed slots es → filter t (map (held_at slots) es) ≡ map (held_at slots) (filter f es)
held_those slots t f agree [] k = refl
held_those slots t f agree (e ∷ es) k =
    let rest = filter f es in
    ap (λ b. cond b (held_at slots e ∷ filter t (map (held_at slots) es)) (filter t (map (held_at slots) es))) (agree e k.0)
    ∙ ap (λ hs. cond (f e) (held_at slots e ∷ hs) hs) (held_those slots t f agree es k.1)
    ∙ (elim (f e) as (λ b. cond b (held_at slots e ∷ map (held_at slots) rest) (map (held_at slots) rest) ≡ map (held_at slots) (cond b (e ∷ rest) rest)) [ true ↦ refl | false ↦ refl ])

-- the packets of an interval are those of the entries under it
of_test : (slots : List Item) (i : ℕ) (e : Entry) → IsEntryOf (item_at slots e.place) e → is_of i (held_at slots e) ≡ is_under i e
of_test slots i e own = ap (λ n. eqb n i) (sym own.0)

pub of_interval : (slots : List Item) (i : ℕ) (es : List Entry) → Keyed slots es → filter (is_of i) (map (held_at slots) es) ≡ map (held_at slots) (filter (is_under i) es)
of_interval slots i es k = held_those slots (is_of i) (is_under i) (of_test slots i) es k

-- and those that were not released are those of the unmarked entries
unreleased_test : (slots : List Item) (i : ℕ) (e : Entry) → IsEntryOf (item_at slots e.place) e → is_unreleased_of i (held_at slots e) ≡ is_unmarked_under i e
unreleased_test slots i e own = ap (λ b. b && not (item_at slots e.place).released) (of_test slots i e own) ∙ ap (λ b. is_under i e && not b) (sym own.1)

pub of_unreleased : (slots : List Item) (i : ℕ) (es : List Entry) → Keyed slots es → filter (is_unreleased_of i) (map (held_at slots) es) ≡ map (held_at slots) (filter (is_unmarked_under i) es)
of_unreleased slots i es k = held_those slots (is_unreleased_of i) (is_unmarked_under i) (unreleased_test slots i) es k

-- the packet at a slot was not released where its entry is unmarked
pub unreleased_there : (slots : List Item) (p : ℕ) (es : List Entry) → Keyed slots es → list_any (is_unreleased_at p) (map (held_at slots) es) ≡ list_any (is_unmarked_at p) es
unreleased_there slots p [] k = refl
unreleased_there slots p (e ∷ es) k =
    ap (λ b. (eqb e.place p && not b) || list_any (is_unreleased_at p) (map (held_at slots) es)) (sym k.0.1)
    ∙ ap (λ b. (eqb e.place p && not e.marked) || b) (unreleased_there slots p es k.1)

-- a slot of the index is a slot of the buffer
abbrev pub to_slot : Option ℕ → Option Place
to_slot None = None
to_slot (Some p) = Some (record { 0 = p })

pub first_is : (slots : List Item) (es : List Entry) → first_slot (map (held_at slots) es) ≡ to_slot (first_entry es)
first_is slots [] = refl
first_is slots (e ∷ es) = refl

-- the next packet that is related to the one at a slot is that of the next entry that is, where the packets that are
-- related are those of the entries that are
next_those : (slots : List Item) (p : ℕ) (those : ℕ → Held → Bool) (these : ℕ → Entry → Bool) (next_held : List Held → Option Place) (next : List Entry → Option ℕ)
    → next_held [] ≡ None → ((h : Held) (hs : List Held) → next_held (h ∷ hs) ≡ cond (is_at p h) (first_slot (filter (those h.item.name.interval) hs)) (next_held hs))
    → next [] ≡ None → ((e : Entry) (es : List Entry) → next (e ∷ es) ≡ cond (entry_at p e) (first_entry (filter (these e.key) es)) (next es))
    → ((i : ℕ) (es : List Entry) → Keyed slots es → filter (those i) (map (held_at slots) es) ≡ map (held_at slots) (filter (these i) es))
    → (es : List Entry) → Keyed slots es → next_held (map (held_at slots) es) ≡ to_slot (next es)
next_those slots p those these next_held next none_held step_held none step agree [] k = none_held ∙ ap to_slot (sym none)
next_those slots p those these next_held next none_held step_held none step agree (e ∷ es) k =
    let hs = map (held_at slots) es in
    let here : first_slot (filter (those (item_at slots e.place).name.interval) hs) ≡ to_slot (first_entry (filter (these e.key) es)) =
    ap (λ n. first_slot (filter (those n) hs)) (sym k.0.0) ∙ ap first_slot (agree e.key es k.1) ∙ first_is slots (filter (these e.key) es) in
    step_held (held_at slots e) hs
    ∙ ap (λ o. cond (eqb e.place p) o (next_held hs)) here
    ∙ ap (λ o. cond (eqb e.place p) (to_slot (first_entry (filter (these e.key) es))) o) (next_those slots p those these next_held next none_held step_held none step agree es k.1)
    ∙ (elim (eqb e.place p) as (λ b. cond b (to_slot (first_entry (filter (these e.key) es))) (to_slot (next es)) ≡ to_slot (cond b (first_entry (filter (these e.key) es)) (next es))) [ true ↦ refl | false ↦ refl ])
    ∙ ap to_slot (sym (step e es))

-- the next packet is that of the next entry
pub next_is : (slots : List Item) (p : ℕ) (es : List Entry) → Keyed slots es → next_slot p (map (held_at slots) es) ≡ to_slot (next_entry p es)
next_is slots p es k = next_those slots p is_of is_under (next_slot p) (next_entry p) refl (λ h hs. refl) refl (λ e xs. refl) (of_interval slots) es k

-- and the next one that was not released is that of the next unmarked entry
pub unreleased_next_is : (slots : List Item) (p : ℕ) (es : List Entry) → Keyed slots es → next_unreleased p (map (held_at slots) es) ≡ to_slot (next_unmarked p es)
unreleased_next_is slots p es k = next_those slots p is_unreleased_of is_unmarked_under (next_unreleased p) (next_unmarked p) refl (λ h hs. refl) refl (λ e xs. refl) (of_unreleased slots) es k

-- ---- changes of the slots

-- entries stay those of their packets where the slots of their places keep their intervals and whether they were released
pub keyed_on : (slots slots' : List Item) (es : List Entry) → Keyed slots es → ((p : ℕ) → is_in p (entry_slots es) ≡ true → (item_at slots' p).name.interval ≡ (item_at slots p).name.interval)
    → ((p : ℕ) → is_in p (entry_slots es) ≡ true → (item_at slots' p).released ≡ (item_at slots p).released) → Keyed slots' es
keyed_on slots slots' [] k same marked = tt
keyed_on slots slots' (e ∷ es) k same marked =
    let here = in_here e.place (entry_slots es) in (
      (k.0.0 ∙ sym (same e.place here), k.0.1 ∙ sym (marked e.place here)),
      keyed_on slots slots' es k.1 (λ p i. same p (in_there e.place p (entry_slots es) i)) (λ p i. marked p (in_there e.place p (entry_slots es) i)),
    )

-- one entry more
pub keyed_push : (slots : List Item) (es : List Entry) (e : Entry) → Keyed slots es → IsEntryOf (item_at slots e.place) e → Keyed slots (es ++ e ∷ [])
keyed_push slots [] e k own = (own, tt)
keyed_push slots (x ∷ es) e k own = (k.0, keyed_push slots es e k.1 own)

-- the entry of a slot is marked, and its packet is released
pub keyed_marked : (slots slots' : List Item) (p : ℕ) (es : List Entry) → ((q : ℕ) → (item_at slots' q).name.interval ≡ (item_at slots q).name.interval)
    → (item_at slots' p).released ≡ true → ((q : ℕ) → (q ≡ p → ⊥) → (item_at slots' q).released ≡ (item_at slots q).released) → Keyed slots es → Keyed slots' (marked_at p es)
keyed_marked slots slots' p [] same here others k = tt
keyed_marked slots slots' p (e ∷ es) same here others k =
    let IsOwn : Entry → Type 0 = λ x. IsEntryOf (item_at slots' x.place) x in (
      ⊎_elim
          (λ (s : e.place ≡ p). subst IsOwn (sym (cond-true (eqb e.place p) (record e { marked = true }) e (eq-eqb e.place p s)))
          (k.0.0 ∙ sym (same e.place), sym (ap (λ q. (item_at slots' q).released) s ∙ here)))
          (λ (ne : e.place ≡ p → ⊥). subst IsOwn (sym (cond-false (eqb e.place p) (record e { marked = true }) e (ne_eqb e.place p ne)))
          (k.0.0 ∙ sym (same e.place), k.0.1 ∙ sym (others e.place ne)))
          (cases_eq e.place p),
      keyed_marked slots slots' p es same here others k.1,
    )

-- a mark leaves the slots
pub marked_slots : (p : ℕ) (es : List Entry) → entry_slots (marked_at p es) ≡ entry_slots es
marked_slots p [] = refl
marked_slots p (e ∷ es) =
    ap (λ q. q ∷ entry_slots (marked_at p es)) (elim (eqb e.place p) as (λ b. (cond b (record e { marked = true }) e).place ≡ e.place) [ true ↦ refl | false ↦ refl ])
    ∙ ap (λ qs. e.place ∷ qs) (marked_slots p es)

-- and all entries, where none is at the slot
marked_none : (p : ℕ) (es : List Entry) → is_in p (entry_slots es) ≡ false → marked_at p es ≡ es
marked_none p [] none = refl
marked_none p (e ∷ es) none =
    let parts = apart e.place p (entry_slots es) none in
    ap (λ x. x ∷ marked_at p es) (cond-false (eqb e.place p) (record e { marked = true }) e (ne_eqb e.place p parts.0)) ∙ ap (λ xs. e ∷ xs) (marked_none p es parts.1)

pub marked_pushed : (key p : ℕ) (es : List Entry) → is_in p (entry_slots es) ≡ false
    → marked_at p (es ++ record { key = key; place = p; marked = false } ∷ []) ≡ es ++ record { key = key; place = p; marked = true } ∷ []
marked_pushed key p es none =
    let old : Entry = record { key = key; place = p; marked = false } in
    let new : Entry = record { key = key; place = p; marked = true } in
    map-append (λ (e : Entry). cond (entry_at p e) (record e { marked = true }) e) es (old ∷ [])
    ∙ ap (λ xs. xs ++ cond (eqb p p) new old ∷ []) (marked_none p es none)
    ∙ ap (λ (x : Entry). es ++ x ∷ []) (cond-true (eqb p p) new old (eq-eqb p p refl))

-- the last of the entries is there
pub pushed_there : (key p : ℕ) (marked : Bool) (es : List Entry) → list_any (entry_at p) (es ++ record { key = key; place = p; marked = marked } ∷ []) ≡ true
pushed_there key p marked es =
    list_any-append (entry_at p) es (record { key = key; place = p; marked = marked } ∷ [])
    ∙ or_right (list_any (entry_at p) es) (list_any (entry_at p) (record { key = key; place = p; marked = marked } ∷ [])) (or_left (eqb p p) false (eq-eqb p p refl))

-- those that pass a test
pub keyed_filter : (slots : List Item) (f : Entry → Bool) (es : List Entry) → Keyed slots es → Keyed slots (filter f es)
keyed_filter slots f [] k = tt
keyed_filter slots f (e ∷ es) k =
    let rest = keyed_filter slots f es k.1 in
    elim (f e) as (λ b. Keyed slots (cond b (e ∷ filter f es) (filter f es))) [ true ↦ (k.0, rest) | false ↦ rest ]

-- packets are the same where the slots of their places are
pub held_on : (slots slots' : List Item) (es : List Entry) → ((p : ℕ) → is_in p (entry_slots es) ≡ true → item_at slots' p ≡ item_at slots p) → map (held_at slots') es ≡ map (held_at slots) es
held_on slots slots' [] same = refl
held_on slots slots' (e ∷ es) same =
    ap (λ x. record { place = e.place; item = x } ∷ map (held_at slots') es) (same e.place (in_here e.place (entry_slots es)))
    ∙ ap (λ hs. held_at slots e ∷ hs) (held_on slots slots' es (λ p i. same p (in_there e.place p (entry_slots es) i)))

-- and where the entries have the same slots
held_by_slots : (slots : List Item) (es : List Entry) → map (held_at slots) es ≡ map (λ p. record { place = p; item = item_at slots p }) (entry_slots es)
held_by_slots slots [] = refl
held_by_slots slots (e ∷ es) = ap (λ hs. held_at slots e ∷ hs) (held_by_slots slots es)

pub held_same_slots : (slots : List Item) (es es' : List Entry) → entry_slots es' ≡ entry_slots es → map (held_at slots) es' ≡ map (held_at slots) es
held_same_slots slots es es' e = held_by_slots slots es' ∙ ap (map (λ p. record { place = p; item = item_at slots p })) e ∙ sym (held_by_slots slots es)

-- where one slot is changed, the packet at its place is
pub held_changed : (slots slots' : List Item) (p : ℕ) (change : Item → Item) (es : List Entry) → item_at slots' p ≡ change (item_at slots p) → ((q : ℕ) → (q ≡ p → ⊥) → item_at slots' q ≡ item_at slots q)
    → map (held_at slots') es ≡ changed p change (map (held_at slots) es)
held_changed slots slots' p change [] here others = refl
held_changed slots slots' p change (e ∷ es) here others =
    let rest = held_changed slots slots' p change es here others in
    let put = λ (x : Held). x ∷ map (held_at slots') es in
    let new : Held = record { place = e.place; item = change (item_at slots e.place) } in
    ⊎_elim
    (λ (s : e.place ≡ p).
    ap (λ x. put (record { place = e.place; item = x })) (ap (item_at slots') s ∙ here ∙ ap (λ q. change (item_at slots q)) (sym s))
    ∙ ap put (sym (cond-true (eqb e.place p) new (held_at slots e) (eq-eqb e.place p s))))
    (λ (ne : e.place ≡ p → ⊥).
    ap (λ x. put (record { place = e.place; item = x })) (others e.place ne)
    ∙ ap put (sym (cond-false (eqb e.place p) new (held_at slots e) (ne_eqb e.place p ne))))
    (cases_eq e.place p)
    ∙ ap (λ hs. cond (eqb e.place p) new (held_at slots e) ∷ hs) rest

-- ---- slots that are told are those of packets

-- the first slot of those that pass a test, by what the packet at it passes
first_any : (f t : Held → Bool) (hs : List Held) (p : Place) → ((h : Held) → f h ≡ true → h.place ≡ p.0 → t h ≡ true) → Some p ≡ first_slot (filter f hs) → list_any t hs ≡ true
first_any f t [] p passes e = absurd (none-some p (sym e))
first_any f t (h ∷ hs) p passes e =
    ⊎_elim
    (λ (y : f h ≡ true).
    let same : p ≡ record { 0 = h.place } = same_Some p (record { 0 = h.place }) (e ∙ ap first_slot (cond-true (f h) (h ∷ filter f hs) (filter f hs) y)) in
    or_left (t h) (list_any t hs) (passes h y (sym (ap (λ (q : Place). q.0) same))))
    (λ (n : f h ≡ false).
    or_right (t h) (list_any t hs) (first_any f t hs p passes (e ∙ ap first_slot (cond-false (f h) (h ∷ filter f hs) (filter f hs) n))))
    (cases_Bool (f h))

pub first_live : (f : Held → Bool) (hs : List Held) (p : Place) → Some p ≡ first_slot (filter f hs) → is_live p.0 hs ≡ true
first_live f hs p e = first_any f (is_at p.0) hs p (λ h y s. eq-eqb h.place p.0 s) e

unreleased_passes : (i : ℕ) (p : Place) (h : Held) → is_unreleased_of i h ≡ true → h.place ≡ p.0 → is_unreleased_at p.0 h ≡ true
unreleased_passes i p h y s = and_from (is_at p.0 h) (not h.item.released) (eq-eqb h.place p.0 s) (and_parts (is_of i h) (not h.item.released) y).1

pub first_unreleased_there : (i : ℕ) (hs : List Held) (p : Place) → Some p ≡ first_slot (filter (is_unreleased_of i) hs) → list_any (is_unreleased_at p.0) hs ≡ true
first_unreleased_there i hs p e = first_any (is_unreleased_of i) (is_unreleased_at p.0) hs p (unreleased_passes i p) e

-- the next slot
next_any : (at : ℕ) (those : ℕ → Held → Bool) (next : List Held → Option Place) (t : Held → Bool) (p : Place)
    → next [] ≡ None → ((h : Held) (hs : List Held) → next (h ∷ hs) ≡ cond (is_at at h) (first_slot (filter (those h.item.name.interval) hs)) (next hs))
    → ((i : ℕ) (h : Held) → those i h ≡ true → h.place ≡ p.0 → t h ≡ true) → (hs : List Held) → Some p ≡ next hs → list_any t hs ≡ true
next_any at those next t p none step passes [] e = absurd (none-some p (sym (e ∙ none)))
next_any at those next t p none step passes (h ∷ hs) e =
    let own = those h.item.name.interval in
    or_right (t h) (list_any t hs)
    (⊎_elim
    (λ (y : is_at at h ≡ true). first_any own t hs p (passes h.item.name.interval) (e ∙ step h hs ∙ cond-true (is_at at h) (first_slot (filter own hs)) (next hs) y))
    (λ (n : is_at at h ≡ false). next_any at those next t p none step passes hs (e ∙ step h hs ∙ cond-false (is_at at h) (first_slot (filter own hs)) (next hs) n))
    (cases_Bool (is_at at h)))

pub next_live : (at : ℕ) (hs : List Held) (p : Place) → Some p ≡ next_slot at hs → is_live p.0 hs ≡ true
next_live at hs p e = next_any at is_of (next_slot at) (is_at p.0) p refl (λ h xs. refl) (λ i h y s. eq-eqb h.place p.0 s) hs e

pub next_unreleased_live : (at : ℕ) (hs : List Held) (p : Place) → Some p ≡ next_unreleased at hs → is_live p.0 hs ≡ true
next_unreleased_live at hs p e = next_any at is_unreleased_of (next_unreleased at) (is_at p.0) p refl (λ h xs. refl) (λ i h y s. eq-eqb h.place p.0 s) hs e

pub next_unreleased_there : (at : ℕ) (hs : List Held) (p : Place) → Some p ≡ next_unreleased at hs → list_any (is_unreleased_at p.0) hs ≡ true
next_unreleased_there at hs p e = next_any at is_unreleased_of (next_unreleased at) (is_unreleased_at p.0) p refl (λ h xs. refl) (λ i h y s. unreleased_passes i p h y s) hs e

-- the slot of a packet that passes a test
pub test_live : (f : Held → Bool) (p : ℕ) (hs : List Held) → list_any (λ h. is_at p h && f h) hs ≡ true → is_live p hs ≡ true
test_live f p [] e = e
test_live f p (h ∷ hs) e =
    ⊎_elim
    (λ (t : (is_at p h && f h) ≡ true). or_left (is_at p h) (is_live p hs) (and_parts (is_at p h) (f h) t).0)
    (λ (t : list_any (λ x. is_at p x && f x) hs ≡ true). or_right (is_at p h) (is_live p hs) (test_live f p hs t))
    (or_cases (is_at p h && f h) (list_any (λ x. is_at p x && f x) hs) e)
