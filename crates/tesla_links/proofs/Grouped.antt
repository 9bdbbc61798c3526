-- An index: how its entries are read, and what an appended and a removed entry leave.
use Rattle.std.proofs.Common.{◌≡◌, ℕ, ◌+◌, ◌<◌, ◌≤◌, Bool, true, false, not, cond, ◌||◌, ◌&&◌, List, [], ◌∷◌, ◌++◌, length, get_or, map, replicate, Some, None, Option, refl, sym, ap, subst, ◌∙◌, arith, eqb, ◌⊎◌, inl, inr, ⊎_elim}
use Rattle.std.specs.List.{filter, list_any}
use Rattle.std.specs.Option.{unwrap_or}
use Rattle.std.specs.Prelude.{slice_get}
use Rattle.std.proofs.Math.ListN.{set}
use Rattle.std.proofs.lemmas.Bool.{and_from, and_parts, cases_Bool, cases_eq, cond-false, cond-true, eq-eqb, eqb-true, false_from_ne_true, false≢true, ne_eqb, not-true, not_from_false, or_cases, or_left}
use Rattle.std.proofs.lemmas.List.{append-nil, get_or-map, get_or-set_other, get_or-set_same, length-map, length-replicate, length-set, map-append, nil_from_length}
use Rattle.std.proofs.Math.Bool.{and-false, and-true, or-false}
use Rattle.std.proofs.lemmas.List.Elements.{filter-append}
use Rattle.std.proofs.lemmas.List.Folds.{list_any-append, list_any_at}
use Rattle.std.proofs.lemmas.Option.{get_or_from_slice_get, none-some, same_Some, slice_get_within}
use Rattle.tesla_links.specs.Entries.{Entry, Entries, first_slot, is_at, is_under, is_unmarked_at, is_unmarked_under, marked_at, next_slot, next_unmarked}
use Rattle.tesla_links.specs.Indexed.{IsIndexed, IsMarked, entries_of, entry_of, group_of, is_marked}
use Rattle.tesla_base.specs.Members.{Distinct, is_in, next_in, without}
use Rattle.tesla_links.specs.Lists.{Lists, list_of, moved}
use Rattle.tesla_links.specs.Slots.{has_key, is_vacant}
use Rattle.tesla_base.proofs.Filtered.{distinct_filter, filter-filter, filter-map, filter_both, filter_nothing, filter_on, in_filter, in_filter_from, left_out, map_on}
use Rattle.tesla_base.proofs.Members.{apart_from, differs, distinct_push, in_cases, in_prefix, in_here, in_joined, in_rest, in_there, list_with, somewhere, without_other, without_same}
use Rattle.tesla_links.proofs.Keyed.{replicate_same}

-- ---- entries and slots

-- the entries are those of the slots
pub entries_are : (order : Lists) (keys : List (Option ℕ)) (groups : List ℕ) (marks : ℕ → Bool) → entries_of order keys groups marks ≡ map (entry_of keys groups marks) (list_of order 0)
unfolding entries_of
entries_are order keys groups marks = refl

-- an entry is at a slot where the slot is among those listed
pub at_slot : (keys : List (Option ℕ)) (groups : List ℕ) (marks : ℕ → Bool) (p : ℕ) (xs : List ℕ) → list_any (is_at p) (map (entry_of keys groups marks) xs) ≡ is_in p xs
at_slot keys groups marks p [] = refl
at_slot keys groups marks p (x ∷ xs) = ap (λ b. eqb x p || b) (at_slot keys groups marks p xs)

-- and an unmarked one where it isn't marked too
pub unmarked_at_slot : (keys : List (Option ℕ)) (groups : List ℕ) (marks : ℕ → Bool) (p : ℕ) (xs : List ℕ) → list_any (is_unmarked_at p) (map (entry_of keys groups marks) xs) ≡ true
    → (is_in p xs ≡ true) × (marks p ≡ false)
unmarked_at_slot keys groups marks p [] i = absurd (false≢true i)
unmarked_at_slot keys groups marks p (x ∷ xs) i =
    ⊎_elim
    (λ (here : (eqb x p && not (marks x)) ≡ true).
    let parts = and_parts (eqb x p) (not (marks x)) here in
    let s : x ≡ p = eqb-true x p parts.0 in
    (or_left (eqb x p) (is_in p xs) parts.0, sym (ap marks s) ∙ not-true (marks x) parts.1))
    (λ (more : list_any (is_unmarked_at p) (map (entry_of keys groups marks) xs) ≡ true).
    let rest = unmarked_at_slot keys groups marks p xs more in
    (in_there x p xs rest.0, rest.1))
    (or_cases (eqb x p && not (marks x)) (list_any (is_unmarked_at p) (map (entry_of keys groups marks) xs)) i)

-- the key of a slot
abbrev key_at : List (Option ℕ) → List ℕ → ℕ → ℕ
key_at keys groups p = unwrap_or (get_or keys (group_of groups p) None) 0

-- the test of a key on the entry of a slot
abbrev under : List (Option ℕ) → List ℕ → ℕ → ℕ → Bool
under keys groups key p = eqb (key_at keys groups p) key

-- the first entry's slot
pub first_is : (entry : ℕ → Entry) → ((q : ℕ) → (entry q).place ≡ q) → (xs : List ℕ) → first_slot (map entry xs) ≡ slice_get xs 0
first_is entry placed [] = refl
first_is entry placed (x ∷ xs) = ap Some (placed x)

-- the next of the slots that pass a test is that of the next entry that is related to the one at a slot, where
-- these slots are those of the related entries
next_along : (entry : ℕ → Entry) (member : ℕ → Bool) (related : Entry → Entry → Bool) (next : List Entry → Option ℕ) (p : ℕ)
    → ((q : ℕ) → (entry q).place ≡ q) → next [] ≡ None
    → ((e : Entry) (es : List Entry) → next (e ∷ es) ≡ cond (is_at p e) (first_slot (filter (related e) es)) (next es))
    → (xs : List ℕ) → ((q : ℕ) → is_in q xs ≡ true → member q ≡ related (entry p) (entry q)) → member p ≡ true
    → next_in p (filter member xs) ≡ next (map entry xs)
next_along entry member related next p placed none step [] agree own = sym none
next_along entry member related next p placed none step (x ∷ xs) agree own =
    let rest = λ (q : ℕ) (i : is_in q xs ≡ true). agree q (in_there x q xs i) in
    let es = map entry xs in
    let at : is_at p (entry x) ≡ eqb x p = ap (λ q. eqb q p) (placed x) in
    ⊎_elim
    (λ (s : x ≡ p).
    let here : member x ≡ true = ap member s ∙ own in
    ap (next_in p) (cond-true (member x) (x ∷ filter member xs) (filter member xs) here)
    ∙ cond-true (eqb x p) (slice_get (filter member xs) 0) (next_in p (filter member xs)) (eq-eqb x p s)
    ∙ ap (λ ys. slice_get ys 0) (filter_on member (λ q. related (entry p) (entry q)) xs rest)
    ∙ sym (first_is entry placed (filter (λ q. related (entry p) (entry q)) xs))
    ∙ ap first_slot (sym (filter-map (related (entry p)) entry xs))
    ∙ ap (λ q. first_slot (filter (related (entry q)) es)) (sym s)
    ∙ sym (cond-true (is_at p (entry x)) (first_slot (filter (related (entry x)) es)) (next es) (at ∙ eq-eqb x p s))
    ∙ sym (step (entry x) es))
    (λ (ne : x ≡ p → ⊥).
    (elim (member x) as (λ b. next_in p (cond b (x ∷ filter member xs) (filter member xs)) ≡ next_in p (filter member xs)) [
      | true ↦ cond-false (eqb x p) (slice_get (filter member xs) 0) (next_in p (filter member xs)) (ne_eqb x p ne)
      | false ↦ refl
    ])
    ∙ next_along entry member related next p placed none step xs rest own
    ∙ sym (cond-false (is_at p (entry x)) (first_slot (filter (related (entry x)) es)) (next es) (at ∙ ne_eqb x p ne))
    ∙ sym (step (entry x) es))
    (cases_eq x p)

-- the group of a slot is among those of the slots
in_mapped : (groups : List ℕ) (g p : ℕ) → group_of groups p ≡ g → (xs : List ℕ) → is_in p xs ≡ true → is_in g (map (group_of groups) xs) ≡ true
in_mapped groups g p e [] i = i
in_mapped groups g p e (x ∷ xs) i =
    ⊎_elim (λ (s : x ≡ p). or_left (eqb (group_of groups x) g) (is_in g (map (group_of groups) xs)) (eq-eqb (group_of groups x) g (ap (group_of groups) s ∙ e)))
    (λ (more : is_in p xs ≡ true). in_there (group_of groups x) g (map (group_of groups) xs) (in_mapped groups g p e xs more))
    (in_cases x p xs i)

-- ---- groups

module _ (capacity : ℕ) (order members : Lists) (groups : List ℕ) (keys : List (Option ℕ)) (h : IsIndexed capacity order members groups keys) where
  abbrev listed : List ℕ
  listed = list_of order 0

  -- a key in use is that of the entries of its group
  same_test : (g key : ℕ) → get_or keys g None ≡ Some key → (p : ℕ) → is_in p listed ≡ true → eqb (group_of groups p) g ≡ under keys groups key p
  same_test g key slot p i =
      let own = h.live p i in
      let is : key_at keys groups p ≡ own.0 = ap (λ o. unwrap_or o 0) own.1 in
      ⊎_elim
      (λ (e : group_of groups p ≡ g).
      let k : own.0 ≡ key = same_Some own.0 key (sym own.1 ∙ ap (λ j. get_or keys j None) e ∙ slot) in
      eq-eqb (group_of groups p) g e ∙ sym (eq-eqb (key_at keys groups p) key (is ∙ k)))
      (λ (ne : group_of groups p ≡ g → ⊥).
      ne_eqb (group_of groups p) g ne
      ∙ sym (ne_eqb (key_at keys groups p) key (λ e. ne (h.unique (group_of groups p) g key (own.1 ∙ ap Some (sym is ∙ e)) slot))))
      (cases_eq (group_of groups p) g)

  -- the group of a key in use is one of the groups
  pub group_within : (g key : ℕ) → get_or keys g None ≡ Some key → g < capacity
  group_within g key slot = let u = h.used g key slot in omega (arith, (h.within u.0 u.1).1, u.2)

  -- the entries with a key are those of its group
  pub under_key : (marks : ℕ → Bool) (g key : ℕ) → get_or keys g None ≡ Some key → filter (is_under key) (map (entry_of keys groups marks) listed) ≡ map (entry_of keys groups marks) (list_of members g)
  under_key marks g key slot =
      filter-map (is_under key) (entry_of keys groups marks) listed
      ∙ ap (map (entry_of keys groups marks)) (sym (filter_on (λ p. eqb (group_of groups p) g) (under keys groups key) listed (same_test g key slot)) ∙ sym (h.member g (group_within g key slot)))

  -- there is none where no group has the key
  pub under_none : (marks : ℕ → Bool) (key : ℕ) → list_any (has_key key) keys ≡ false → filter (is_under key) (map (entry_of keys groups marks) listed) ≡ []
  under_none marks key none =
      filter-map (is_under key) (entry_of keys groups marks) listed
      ∙ ap (map (entry_of keys groups marks)) (filter_nothing (under keys groups key) listed
      (λ p i.
      let own = h.live p i in
      let is : key_at keys groups p ≡ own.0 = ap (λ o. unwrap_or o 0) own.1 in
      ne_eqb (key_at keys groups p) key (λ e.
      let passes : has_key key (get_or keys (group_of groups p) None) ≡ true = ap (has_key key) own.1 ∙ eq-eqb own.0 key (sym is ∙ e) in
      false≢true (sym none ∙ list_any_at (has_key key) keys (group_of groups p) None (omega (arith, (h.within p i).1, h.keyed)) passes))))

  -- a listed slot is in the list of its group
  pub in_group : (p : ℕ) → is_in p listed ≡ true → is_in p (list_of members (group_of groups p)) ≡ true
  in_group p i =
      ap (is_in p) (h.member (group_of groups p) (h.within p i).1)
      ∙ in_filter_from (λ q. eqb (group_of groups q) (group_of groups p)) p listed i (eq-eqb (group_of groups p) (group_of groups p) refl)

  -- a slot that isn't listed is in no group
  pub in_no_group : (p : ℕ) → is_in p listed ≡ false → list_any (is_in p) members.lists ≡ false
  in_no_group p none =
      false_from_ne_true (list_any (is_in p) members.lists) (λ some.
      let at = list_with p members.lists some in
      false≢true (sym none ∙ (in_filter (λ q. eqb (group_of groups q) at.0) p listed (ap (is_in p) (sym (h.member at.0 (omega (arith, at.1, h.member_lists)))) ∙ at.2)).0))

  -- the slots of the group of a slot are those under its key
  same_group : (p : ℕ) → is_in p listed ≡ true → (q : ℕ) → is_in q listed ≡ true → eqb (group_of groups q) (group_of groups p) ≡ under keys groups (key_at keys groups p) q
  same_group p i q j =
      let own = h.live p i in
      same_test (group_of groups p) own.0 own.1 q j ∙ ap (eqb (key_at keys groups q)) (sym (ap (λ o. unwrap_or o 0) own.1))

  own_member : (p : ℕ) → eqb (group_of groups p) (group_of groups p) ≡ true
  own_member p = eq-eqb (group_of groups p) (group_of groups p) refl

  -- the slot behind another in its group is that of the next entry with the same key
  pub next_is : (marks : ℕ → Bool) (p : ℕ) → is_in p listed ≡ true → next_in p (list_of members (group_of groups p)) ≡ next_slot p (map (entry_of keys groups marks) listed)
  next_is marks p i =
      ap (next_in p) (h.member (group_of groups p) (h.within p i).1)
      ∙ next_along (entry_of keys groups marks) (λ q. eqb (group_of groups q) (group_of groups p)) (λ e. is_under e.key) (next_slot p) p (λ q. refl) refl (λ e es. refl) listed
      (same_group p i) (own_member p)

  -- where each group has a list of its unmarked slots, these are those of the unmarked entries
  module _ (unmarked : Lists) (m : IsMarked capacity order members unmarked) where
    abbrev marks : ℕ → Bool
    marks = is_marked capacity unmarked

    pub unmarked_key : (g key : ℕ) → get_or keys g None ≡ Some key → filter (is_unmarked_under key) (map (entry_of keys groups marks) listed) ≡ map (entry_of keys groups marks) (list_of unmarked g)
    unmarked_key g key slot =
        let unmarked_entry = λ (e : Entry). not e.marked in
        sym (filter_both (is_under key) unmarked_entry (map (entry_of keys groups marks) listed))
        ∙ ap (filter unmarked_entry) (under_key marks g key slot)
        ∙ filter-map unmarked_entry (entry_of keys groups marks) (list_of members g)
        ∙ ap (map (entry_of keys groups marks)) (sym (m.open_slots g (group_within g key slot)))

    pub unmarked_none : (key : ℕ) → list_any (has_key key) keys ≡ false → filter (is_unmarked_under key) (map (entry_of keys groups marks) listed) ≡ []
    unmarked_none key none =
        let unmarked_entry = λ (e : Entry). not e.marked in
        sym (filter_both (is_under key) unmarked_entry (map (entry_of keys groups marks) listed)) ∙ ap (filter unmarked_entry) (under_none marks key none)

    pub in_unmarked : (p : ℕ) → is_in p listed ≡ true → marks p ≡ false → is_in p (list_of unmarked (group_of groups p)) ≡ true
    in_unmarked p i none =
        ap (is_in p) (m.open_slots (group_of groups p) (h.within p i).1)
        ∙ in_filter_from (λ q. not (marks q)) p (list_of members (group_of groups p)) (in_group p i) (not_from_false (marks p) none)

    pub unmarked_next_is : (p : ℕ) → is_in p listed ≡ true → marks p ≡ false → next_in p (list_of unmarked (group_of groups p)) ≡ next_unmarked p (map (entry_of keys groups marks) listed)
    unmarked_next_is p i none =
        let member = λ (q : ℕ). eqb (group_of groups q) (group_of groups p) in
        let left = λ (q : ℕ). not (marks q) in
        ap (next_in p) (m.open_slots (group_of groups p) (h.within p i).1 ∙ ap (filter left) (h.member (group_of groups p) (h.within p i).1) ∙ filter_both member left listed)
        ∙ next_along (entry_of keys groups marks) (λ q. member q && left q) (λ e. is_unmarked_under e.key) (next_unmarked p) p (λ q. refl) refl (λ e es. refl) listed
        (λ q j. ap (λ b. b && left q) (same_group p i q j)) (and_from (member p) (left p) (own_member p) (not_from_false (marks p) none))

    -- a listed slot stands in one of the lists, and another in none
    pub marked_somewhere : (p : ℕ) → is_in p listed ≡ true → list_any (is_in p) unmarked.lists ≡ true
    marked_somewhere p i =
        ⊎_elim (λ (t : marks p ≡ true). somewhere p unmarked.lists capacity t)
        (λ (none : marks p ≡ false). somewhere p unmarked.lists (group_of groups p) (in_unmarked p i none))
        (cases_Bool (marks p))

    pub marked_nowhere : (p : ℕ) → is_in p listed ≡ false → list_any (is_in p) unmarked.lists ≡ false
    marked_nowhere p none =
        false_from_ne_true (list_any (is_in p) unmarked.lists) (λ some.
        let at = list_with p unmarked.lists some in
        false≢true (sym none ∙ ⊎_elim
        (λ (s : at.0 ≡ capacity). m.marked p (sym (ap (λ k. is_in p (list_of unmarked k)) s) ∙ at.2))
        (λ (ne : at.0 ≡ capacity → ⊥).
        let below : at.0 < capacity = omega (arith, at.1, m.lists) in
        let member = (in_filter (λ q. not (marks q)) p (list_of members at.0) (ap (is_in p) (sym (m.open_slots at.0 below)) ∙ at.2)).0 in
        (in_filter (λ q. eqb (group_of groups q) at.0) p listed (ap (is_in p) (sym (h.member at.0 below)) ∙ member)).0)
        (cases_eq at.0 capacity)))

  -- where there is room, a group is vacant
  pub some_vacant : length listed < capacity → list_any is_vacant keys ≡ true
  some_vacant room =
      let found = left_out capacity (map (group_of groups) listed) (omega (arith, length-map listed (group_of groups))) in
      let vacant : is_vacant (get_or keys found.0 None) ≡ true =
      elim (get_or keys found.0 None) as (λ o. get_or keys found.0 None ≡ o → is_vacant o ≡ true) [
        | None ↦ λ e. refl
        | Some key ↦ λ e. let u = h.used found.0 key e in absurd (false≢true (sym found.2 ∙ in_mapped groups found.0 u.0 u.2 listed u.1))
      ] refl in
      list_any_at is_vacant keys found.0 None (omega (arith, found.1, h.keyed)) vacant

-- ---- an entry is appended

-- the group that an appended entry gets has its key already, or is vacant, and then no group has the key
abbrev pub MayHave : List (Option ℕ) → ℕ → ℕ → Type 0
MayHave keys g key = (slice_get keys g ≡ Some (Some key)) ⊎ ((slice_get keys g ≡ Some None) × (list_any (has_key key) keys ≡ false))

module _ (capacity : ℕ) (order members order' members' : Lists) (groups : List ℕ) (keys : List (Option ℕ)) (p g key : ℕ)
    (h : IsIndexed capacity order members groups keys) (within : p < capacity) (absent : is_in p (list_of order 0) ≡ false) (may : MayHave keys g key) where
  abbrev before : List ℕ
  before = list_of order 0

  abbrev groups' : List ℕ
  groups' = set groups p g

  abbrev keys' : List (Option ℕ)
  keys' = set keys g (Some key)

  pub chosen_within : g < capacity
  chosen_within = ⊎_elim (λ (a : slice_get keys g ≡ Some (Some key)). omega (arith, slice_get_within keys g (Some key) a, h.keyed))
      (λ (b : (slice_get keys g ≡ Some None) × (list_any (has_key key) keys ≡ false)). omega (arith, slice_get_within keys g None b.0, h.keyed)) may

  key_there : get_or keys' g None ≡ Some key
  key_there = get_or-set_same keys g (Some key) None (omega (arith, h.keyed, chosen_within))

  group_there : group_of groups' p ≡ g
  group_there = get_or-set_same groups p g 0 (omega (arith, h.grouped))

  group_kept : (q : ℕ) → is_in q before ≡ true → group_of groups' q ≡ group_of groups q
  group_kept q i = get_or-set_other groups p q g 0 (λ e. differs q p before i absent (sym e))

  -- the key of a slot that was there stays
  key_kept : (q : ℕ) → is_in q before ≡ true → get_or keys' (group_of groups q) None ≡ get_or keys (group_of groups q) None
  key_kept q i =
      ⊎_elim
      (λ (e : group_of groups q ≡ g).
      ap (λ j. get_or keys' j None) e ∙ key_there
      ∙ ⊎_elim (λ (a : slice_get keys g ≡ Some (Some key)). sym (ap (λ j. get_or keys j None) e ∙ get_or_from_slice_get keys g (Some key) None a))
      (λ (b : (slice_get keys g ≡ Some None) × (list_any (has_key key) keys ≡ false)).
      let own = h.live q i in
      absurd (none-some own.0 (sym (get_or_from_slice_get keys g None None b.0) ∙ sym (ap (λ j. get_or keys j None) e) ∙ own.1)))
      may)
      (λ (ne : group_of groups q ≡ g → ⊥). get_or-set_other keys g (group_of groups q) (Some key) None ne)
      (cases_eq (group_of groups q) g)

  slot_kept : (q : ℕ) → is_in q before ≡ true → get_or keys' (group_of groups' q) None ≡ get_or keys (group_of groups q) None
  slot_kept q i = ap (λ j. get_or keys' j None) (group_kept q i) ∙ key_kept q i

  -- another group has another key
  other_key : (j k : ℕ) → (j ≡ g → ⊥) → get_or keys' j None ≡ Some k → (get_or keys j None ≡ Some k) × (k ≡ key → ⊥)
  other_key j k ne slot =
      let old : get_or keys j None ≡ Some k = sym (get_or-set_other keys g j (Some key) None ne) ∙ slot in (
        old,
        λ e.
            ⊎_elim (λ (a : slice_get keys g ≡ Some (Some key)). ne (h.unique j g key (old ∙ ap Some e) (get_or_from_slice_get keys g (Some key) None a)))
            (λ (b : (slice_get keys g ≡ Some None) × (list_any (has_key key) keys ≡ false)).
            let u = h.used j k old in
            false≢true (sym b.1 ∙ list_any_at (has_key key) keys j None (omega (arith, (h.within u.0 u.1).1, u.2, h.keyed)) (ap (has_key key) old ∙ eq-eqb k key e)))
            may,
      )

  abbrev Listed : Type 0
  Listed = list_of order' 0 ≡ before ++ p ∷ []

  abbrev Joined : Type 0
  Joined = (j : ℕ) → j < capacity → list_of members' j ≡ cond (eqb j g) (list_of members j ++ p ∷ []) (list_of members j)

  listed_cases : Listed → (q : ℕ) → is_in q (list_of order' 0) ≡ true → (is_in q before ≡ true) ⊎ (q ≡ p)
  listed_cases e q i =
      ⊎_elim (λ (a : is_in q before ≡ true). inl a)
      (λ (b : is_in q (p ∷ []) ≡ true). ⊎_elim (λ (s : p ≡ q). inr (sym s)) (λ (n : is_in q [] ≡ true). absurd (false≢true n)) (in_cases p q [] b))
      (in_joined q before (p ∷ []) (ap (is_in q) (sym e) ∙ i))

  kept_listed : Listed → (q : ℕ) → is_in q before ≡ true → is_in q (list_of order' 0) ≡ true
  kept_listed e q i = ap (is_in q) e ∙ in_prefix q before (p ∷ []) i

  member_appended : Joined → Listed → (j : ℕ) → j < capacity → list_of members' j ≡ filter (λ q. eqb (group_of groups' q) j) (list_of order' 0)
  member_appended joined e j below =
      let test' = λ (q : ℕ). eqb (group_of groups' q) j in
      let test = λ (q : ℕ). eqb (group_of groups q) j in
      let prefix : filter test' before ≡ list_of members j = filter_on test' test before (λ q i. ap (λ n. eqb n j) (group_kept q i)) ∙ sym (h.member j below) in
      joined j below
      ∙ ⊎_elim
      (λ (s : j ≡ g).
      cond-true (eqb j g) (list_of members j ++ p ∷ []) (list_of members j) (eq-eqb j g s)
      ∙ ap (λ ys. ys ++ p ∷ []) (sym prefix)
      ∙ ap (λ ys. filter test' before ++ ys) (sym (cond-true (test' p) (p ∷ []) [] (eq-eqb (group_of groups' p) j (group_there ∙ sym s)))))
      (λ (ne : j ≡ g → ⊥).
      cond-false (eqb j g) (list_of members j ++ p ∷ []) (list_of members j) (ne_eqb j g ne)
      ∙ sym prefix ∙ sym (append-nil (filter test' before))
      ∙ ap (λ ys. filter test' before ++ ys) (sym (cond-false (test' p) (p ∷ []) [] (ne_eqb (group_of groups' p) j (λ s. ne (sym s ∙ group_there))))))
      (cases_eq j g)
      ∙ sym (filter-append test' before (p ∷ []))
      ∙ ap (filter test') (sym e)

  pub indexed_append : order'.slot_count ≡ order.slot_count → length order'.lists ≡ length order.lists → members'.slot_count ≡ members.slot_count → length members'.lists ≡ length members.lists → Listed → Joined
      → IsIndexed capacity order' members' groups' keys'
  indexed_append same_order ones same_members lists e joined =
      let Within : ℕ → Type 0 = λ q. (q < capacity) × (group_of groups' q < capacity) in
      let Live : ℕ → Type 0 = λ q. (k : ℕ) × (get_or keys' (group_of groups' q) None ≡ Some k) in
      let chosen = chosen_within in
      record {
        some = h.some;
        most = h.most;
        slot_count = same_order ∙ h.slot_count;
        one = ones ∙ h.one;
        member_slots = same_members ∙ h.member_slots;
        member_lists = lists ∙ h.member_lists;
        grouped = length-set groups p g ∙ h.grouped;
        keyed = length-set keys g (Some key) ∙ h.keyed;
        distinct = subst (λ xs. Distinct xs) (sym e) (distinct_push before p h.distinct absent);
        within = λ q i.
            ⊎_elim (λ (a : is_in q before ≡ true). let w = h.within q a in (w.0, omega (arith, w.1, group_kept q a)))
            (λ (s : q ≡ p). subst Within (sym s) (within, omega (arith, chosen, group_there)))
            (listed_cases e q i);
        member = member_appended joined e;
        live = λ q i.
            ⊎_elim (λ (a : is_in q before ≡ true). let own = h.live q a in (own.0, slot_kept q a ∙ own.1))
            (λ (s : q ≡ p). subst Live (sym s) (key, ap (λ j. get_or keys' j None) group_there ∙ key_there))
            (listed_cases e q i);
        used = λ j k slot.
            ⊎_elim
            (λ (s : j ≡ g). (p, ap (is_in p) e ∙ in_rest p before (p ∷ []) (in_here p []), group_there ∙ sym s))
            (λ (ne : j ≡ g → ⊥).
            let u = h.used j k (other_key j k ne slot).0 in
            (u.0, kept_listed e u.0 u.1, group_kept u.0 u.1 ∙ u.2))
            (cases_eq j g);
        unique = λ a b k left right.
            ⊎_elim
            (λ (s : a ≡ g). ⊎_elim (λ (t : b ≡ g). s ∙ sym t)
            (λ (nb : b ≡ g → ⊥). absurd ((other_key b k nb right).1 (same_Some k key (sym left ∙ ap (λ j. get_or keys' j None) s ∙ key_there))))
            (cases_eq b g))
            (λ (na : a ≡ g → ⊥). ⊎_elim
            (λ (t : b ≡ g). absurd ((other_key a k na left).1 (same_Some k key (sym right ∙ ap (λ j. get_or keys' j None) t ∙ key_there))))
            (λ (nb : b ≡ g → ⊥). h.unique a b k (other_key a k na left).0 (other_key b k nb right).0)
            (cases_eq b g))
            (cases_eq a g);
      }

  pub entries_append : (marks marks' : ℕ → Bool) → ((q : ℕ) → marks' q ≡ marks q) → marks p ≡ false → Listed
      → entries_of order' keys' groups' marks' ≡ entries_of order keys groups marks ++ record { key = key; place = p; marked = false } ∷ []
  entries_append marks marks' same unmarked e =
      let old = entry_of keys groups marks in
      let new = entry_of keys' groups' marks' in
      let kept = λ (q : ℕ) (i : is_in q before ≡ true).
      ap (λ o. record { key = unwrap_or o 0; place = q; marked = marks' q }) (slot_kept q i) ∙ ap (λ b. record { key = key_at keys groups q; place = q; marked = b }) (same q) in
      let own : new p ≡ record { key = key; place = p; marked = false } =
      ap (λ o. record { key = unwrap_or o 0; place = p; marked = marks' p }) (ap (λ j. get_or keys' j None) group_there ∙ key_there) ∙ ap (λ b. record { key = key; place = p; marked = b }) (same p ∙ unmarked) in
      entries_are order' keys' groups' marks' ∙ ap (map new) e ∙ map-append new before (p ∷ [])
      ∙ ap (λ es. es ++ new p ∷ []) (map_on new old before kept ∙ sym (entries_are order keys groups marks))
      ∙ ap (λ (x : Entry). entries_of order keys groups marks ++ x ∷ []) own

-- ---- an entry is removed

-- the keys after that: the group is vacant where it has no slot left, and as before where it has
abbrev pub Vacated : List (Option ℕ) → List (Option ℕ) → ℕ → List ℕ → Type 0
Vacated keys keys' g left = ((get_or keys' g None ≡ None) × (left ≡ [])) ⊎ ((get_or keys' g None ≡ get_or keys g None) × ((r : ℕ) × (is_in r left ≡ true)))

module _ (capacity : ℕ) (order members order' members' : Lists) (groups : List ℕ) (keys keys' : List (Option ℕ)) (p : ℕ)
    (h : IsIndexed capacity order members groups keys) (listed_p : is_in p (list_of order 0) ≡ true)
    (e : list_of order' 0 ≡ without p (list_of order 0)) (fewer : (j : ℕ) → j < capacity → list_of members' j ≡ without p (list_of members j))
    (others : (j : ℕ) → (j ≡ group_of groups p → ⊥) → get_or keys' j None ≡ get_or keys j None) (vacated : Vacated keys keys' (group_of groups p) (list_of members' (group_of groups p))) where
  abbrev was : List ℕ
  was = list_of order 0

  abbrev own_group : ℕ
  own_group = group_of groups p

  member_left : (j : ℕ) → j < capacity → list_of members' j ≡ filter (λ q. eqb (group_of groups q) j) (list_of order' 0)
  member_left j below =
      let test = λ (q : ℕ). eqb (group_of groups q) j in
      fewer j below ∙ ap (without p) (h.member j below) ∙ filter-filter (λ q. not (eqb q p)) test was ∙ ap (filter test) (sym e)

  left_listed : (q : ℕ) → is_in q (list_of order' 0) ≡ true → is_in q was ≡ true
  left_listed q i = (in_filter (λ x. not (eqb x p)) q was (ap (is_in q) (sym e) ∙ i)).0

  left_key : (q : ℕ) → is_in q (list_of order' 0) ≡ true → get_or keys' (group_of groups q) None ≡ get_or keys (group_of groups q) None
  left_key q i =
      ⊎_elim
      (λ (s : group_of groups q ≡ own_group).
      ap (λ j. get_or keys' j None) s
      ∙ ⊎_elim
      (λ (v : (get_or keys' own_group None ≡ None) × (list_of members' own_group ≡ [])).
      let below : own_group < capacity = (h.within p listed_p).1 in
      let there : is_in q (list_of members' own_group) ≡ true = ap (is_in q) (member_left own_group below) ∙ in_filter_from (λ x. eqb (group_of groups x) own_group) q (list_of order' 0) i (eq-eqb (group_of groups q) own_group s) in
      absurd (false≢true (ap (is_in q) (sym v.1) ∙ there)))
      (λ (k : (get_or keys' own_group None ≡ get_or keys own_group None) × ((r : ℕ) × (is_in r (list_of members' own_group) ≡ true))). k.0)
      vacated
      ∙ ap (λ j. get_or keys j None) (sym s))
      (λ (ne : group_of groups q ≡ own_group → ⊥). others (group_of groups q) ne)
      (cases_eq (group_of groups q) own_group)

  -- a group that has a key had it before
  had_key : (j k : ℕ) → get_or keys' j None ≡ Some k → get_or keys j None ≡ Some k
  had_key j k slot =
      ⊎_elim
      (λ (s : j ≡ own_group).
      ⊎_elim
      (λ (v : (get_or keys' own_group None ≡ None) × (list_of members' own_group ≡ [])). absurd (none-some k (sym v.0 ∙ ap (λ i. get_or keys' i None) (sym s) ∙ slot)))
      (λ (t : (get_or keys' own_group None ≡ get_or keys own_group None) × ((r : ℕ) × (is_in r (list_of members' own_group) ≡ true))).
      ap (λ i. get_or keys i None) s ∙ sym t.0 ∙ ap (λ i. get_or keys' i None) (sym s) ∙ slot)
      vacated)
      (λ (ne : j ≡ own_group → ⊥). sym (others j ne) ∙ slot)
      (cases_eq j own_group)

  still_used : (j k : ℕ) → get_or keys' j None ≡ Some k → (q : ℕ) × (is_in q (list_of order' 0) ≡ true) × (group_of groups q ≡ j)
  still_used j k slot =
      ⊎_elim
      (λ (s : j ≡ own_group).
      ⊎_elim
      (λ (v : (get_or keys' own_group None ≡ None) × (list_of members' own_group ≡ [])). absurd (none-some k (sym v.0 ∙ ap (λ i. get_or keys' i None) (sym s) ∙ slot)))
      (λ (t : (get_or keys' own_group None ≡ get_or keys own_group None) × ((r : ℕ) × (is_in r (list_of members' own_group) ≡ true))).
      let below : own_group < capacity = (h.within p listed_p).1 in
      let r = in_filter (λ x. eqb (group_of groups x) own_group) t.1.0 (list_of order' 0) (ap (is_in t.1.0) (sym (member_left own_group below)) ∙ t.1.1) in
      (t.1.0, r.0, eqb-true (group_of groups t.1.0) own_group r.1 ∙ sym s))
      vacated)
      (λ (ne : j ≡ own_group → ⊥).
      let u = h.used j k (had_key j k slot) in
      let apart : u.0 ≡ p → ⊥ = λ q. ne (sym u.2 ∙ ap (group_of groups) q) in
      (u.0, ap (is_in u.0) e ∙ without_other p u.0 was apart ∙ u.1, u.2))
      (cases_eq j own_group)

  pub indexed_remove : order'.slot_count ≡ order.slot_count → length order'.lists ≡ length order.lists → members'.slot_count ≡ members.slot_count → length members'.lists ≡ length members.lists → length keys' ≡ length keys
      → IsIndexed capacity order' members' groups keys'
  indexed_remove same_order ones same_members lists size = record {
    some = h.some;
    most = h.most;
    slot_count = same_order ∙ h.slot_count;
    one = ones ∙ h.one;
    member_slots = same_members ∙ h.member_slots;
    member_lists = lists ∙ h.member_lists;
    grouped = h.grouped;
    keyed = size ∙ h.keyed;
    distinct = subst (λ xs. Distinct xs) (sym e) (distinct_filter (λ x. not (eqb x p)) was h.distinct);
    within = λ q i. h.within q (left_listed q i);
    member = member_left;
    live = λ q i. let own = h.live q (left_listed q i) in (own.0, left_key q i ∙ own.1);
    used = still_used;
    unique = λ a b k left right. h.unique a b k (had_key a k left) (had_key b k right);
  }

  pub entries_remove : (marks marks' : ℕ → Bool) → ((q : ℕ) → (q ≡ p → ⊥) → marks' q ≡ marks q) → entries_of order' keys' groups marks' ≡ filter (λ x. not (is_at p x)) (entries_of order keys groups marks)
  entries_remove marks marks' same =
      let old = entry_of keys groups marks in
      let apart = λ (q : ℕ) (i : is_in q (list_of order' 0) ≡ true). differs q p (list_of order' 0) i (ap (is_in p) e ∙ without_same p was) in
      let kept = λ (q : ℕ) (i : is_in q (list_of order' 0) ≡ true).
      ap (λ o. record { key = unwrap_or o 0; place = q; marked = marks' q }) (left_key q i) ∙ ap (λ b. record { key = key_at keys groups q; place = q; marked = b }) (same q (λ s. apart q i (sym s))) in
      entries_are order' keys' groups marks'
      ∙ map_on (entry_of keys' groups marks') old (list_of order' 0) kept
      ∙ ap (map old) e
      ∙ sym (filter-map (λ (x : Entry). not (is_at p x)) old was)
      ∙ ap (filter (λ (x : Entry). not (is_at p x))) (sym (entries_are order keys groups marks))

-- ---- at the opening

pub indexed_open : (capacity : ℕ) (order members : Lists) (groups : List ℕ) (keys : List (Option ℕ)) → 1 ≤ capacity → capacity ≤ 65536
    → ◌≡◌ {A = Lists} order (record { slot_count = capacity; lists = replicate 1 []; reserved = order.reserved }) → ◌≡◌ {A = Lists} members (record { slot_count = capacity; lists = replicate capacity []; reserved = members.reserved })
    → groups ≡ replicate capacity 0 → keys ≡ replicate capacity None
    → IsIndexed capacity order members groups keys
indexed_open capacity order members groups keys some most eo em eg ek =
    let none : list_of order 0 ≡ [] = ap (λ (v : Lists). list_of v 0) eo in
    let lists : members.lists ≡ replicate capacity [] = ap (λ (v : Lists). v.lists) em in
    let slot : (j : ℕ) → get_or keys j None ≡ None = λ j. ap (λ ks. get_or ks j None) ek ∙ replicate_same capacity j None in
    let NotListed = λ (p : ℕ) (i : is_in p (list_of order 0) ≡ true). false≢true (ap (is_in p) (sym none) ∙ i) in
    record {
      some = some;
      most = most;
      slot_count = ap (λ (v : Lists). v.slot_count) eo;
      one = ap (λ (v : Lists). length v.lists) eo;
      member_slots = ap (λ (v : Lists). v.slot_count) em;
      member_lists = ap length lists ∙ length-replicate capacity [];
      grouped = ap length eg ∙ length-replicate capacity 0;
      keyed = ap length ek ∙ length-replicate capacity None;
      distinct = subst (λ xs. Distinct xs) (sym none) tt;
      within = λ p i. absurd (NotListed p i);
      member = λ g below. ap (λ ls. get_or ls g []) lists ∙ replicate_same capacity g [] ∙ ap (filter (λ p. eqb (group_of groups p) g)) (sym none);
      live = λ p i. absurd (NotListed p i);
      used = λ g key e. absurd (none-some key (sym (slot g) ∙ e));
      unique = λ g k key e f. absurd (none-some key (sym (slot g) ∙ e));
    }

pub marked_open : (capacity : ℕ) (order members unmarked : Lists) → ◌≡◌ {A = Lists} order (record { slot_count = capacity; lists = replicate 1 []; reserved = order.reserved })
    → ◌≡◌ {A = Lists} members (record { slot_count = capacity; lists = replicate capacity []; reserved = members.reserved }) → ◌≡◌ {A = Lists} unmarked (record { slot_count = capacity; lists = replicate (capacity + 1) []; reserved = unmarked.reserved })
    → IsMarked capacity order members unmarked
marked_open capacity order members unmarked eo em eu =
    let empty : (j : ℕ) → list_of unmarked j ≡ [] = λ j. ap (λ (v : Lists). list_of v j) eu ∙ replicate_same (capacity + 1) j [] in
    record {
      slot_count = ap (λ (v : Lists). v.slot_count) eu;
      lists = ap (λ (v : Lists). length v.lists) eu ∙ length-replicate (capacity + 1) [];
      open_slots = λ g below.
          empty g ∙ sym (ap (filter (λ p. not (is_marked capacity unmarked p))) (ap (λ (v : Lists). list_of v g) em ∙ replicate_same capacity g []));
      marked = λ p i. absurd (false≢true (ap (is_in p) (sym (empty capacity)) ∙ i));
    }

-- the same entries, with the same room
pub same_shown : (capacity room : ℕ) (entries entries' : List Entry) → entries ≡ entries' → ◌≡◌ {A = Entries} (record { capacity = capacity; entries = entries; reserved = room }) (record { capacity = capacity; entries = entries'; reserved = room })
same_shown capacity room entries entries' e = ap (λ es. record { capacity = capacity; entries = es; reserved = room }) e

-- ---- as the code changes it

-- where there is one list, a number stands in some list where it stands in that
pub one_list : (p : ℕ) (lists : List (List ℕ)) → length lists ≡ 1 → list_any (is_in p) lists ≡ is_in p (get_or lists 0 [])
one_list p [] e = absurd (omega arith)
one_list p (xs ∷ []) e = or-false (is_in p xs)
one_list p (xs ∷ ys ∷ lists) e = absurd (omega arith)

-- a list that isn't empty has a number
some_in : (xs : List ℕ) → (length xs ≡ 0 → ⊥) → (r : ℕ) × (is_in r xs ≡ true)
some_in [] ne = absurd (ne refl)
some_in (x ∷ xs) ne = (x, in_here x xs)

module _ (capacity : ℕ) (order unmarked : Lists) (groups : List ℕ) (keys : List (Option ℕ)) (seen : Entries) {room : ℕ}
    (view : ◌≡◌ {A = Entries} (record { capacity = capacity; entries = entries_of order keys groups (is_marked capacity unmarked); reserved = room }) seen) where
  abbrev seen_entry : ℕ → Entry
  seen_entry = entry_of keys groups (is_marked capacity unmarked)

  pub seen_entries : seen.entries ≡ map (entry_of keys groups (is_marked capacity unmarked)) (list_of order 0)
  seen_entries = sym (ap (λ (v : Entries). v.entries) view) ∙ entries_are order keys groups (is_marked capacity unmarked)

  pub seen_capacity : capacity ≡ seen.capacity
  seen_capacity = ap (λ (v : Entries). v.capacity) view

  pub seen_length : length seen.entries ≡ length (list_of order 0)
  seen_length = ap length seen_entries ∙ length-map (list_of order 0) seen_entry

  pub seen_at : (p : ℕ) → list_any (is_at p) seen.entries ≡ is_in p (list_of order 0)
  seen_at p = ap (list_any (is_at p)) seen_entries ∙ at_slot keys groups (is_marked capacity unmarked) p (list_of order 0)

  pub seen_unmarked : (p : ℕ) → list_any (is_unmarked_at p) seen.entries ≡ true → (is_in p (list_of order 0) ≡ true) × (is_marked capacity unmarked p ≡ false)
  seen_unmarked p i = unmarked_at_slot keys groups (is_marked capacity unmarked) p (list_of order 0) (sym (ap (list_any (is_unmarked_at p)) seen_entries) ∙ i)

-- a number is put at the end of a list
joined_at : (lists lists' : Lists) (g p : ℕ) → g < length lists.lists → lists'.lists ≡ set lists.lists g (list_of lists g ++ p ∷ [])
    → (j : ℕ) → list_of lists' j ≡ cond (eqb j g) (list_of lists j ++ p ∷ []) (list_of lists j)
joined_at lists lists' g p below e j =
    ap (λ ls. get_or ls j []) e
    ∙ ⊎_elim
    (λ (s : j ≡ g).
    ap (λ i. get_or (set lists.lists g (list_of lists g ++ p ∷ [])) i []) s
    ∙ get_or-set_same lists.lists g (list_of lists g ++ p ∷ []) [] below
    ∙ ap (λ i. list_of lists i ++ p ∷ []) (sym s)
    ∙ sym (cond-true (eqb j g) (list_of lists j ++ p ∷ []) (list_of lists j) (eq-eqb j g s)))
    (λ (ne : j ≡ g → ⊥).
    get_or-set_other lists.lists g j (list_of lists g ++ p ∷ []) [] ne
    ∙ sym (cond-false (eqb j g) (list_of lists j ++ p ∷ []) (list_of lists j) (ne_eqb j g ne)))
    (cases_eq j g)

-- a number is taken out of all lists
left_at : (lists lists' : Lists) (p : ℕ) → lists'.lists ≡ map (without p) lists.lists → (j : ℕ) → j < length lists.lists → list_of lists' j ≡ without p (list_of lists j)
left_at lists lists' p e j below = ap (λ ls. get_or ls j []) e ∙ get_or-map (without p) lists.lists j [] [] below

module _ (capacity : ℕ) (order members unmarked order' members' unmarked' : Lists) (groups : List ℕ) (keys keys' : List (Option ℕ)) (p g key : ℕ)
    (h : IsIndexed capacity order members groups keys) (m : IsMarked capacity order members unmarked)
    (within : p < capacity) (absent : is_in p (list_of order 0) ≡ false) (may : MayHave keys g key) (ek : keys' ≡ set keys g (Some key))
    (op : order'.slot_count ≡ order.slot_count) (ol : order'.lists ≡ set order.lists 0 (list_of order 0 ++ p ∷ []))
    (mp : members'.slot_count ≡ members.slot_count) (ml : members'.lists ≡ set members.lists g (list_of members g ++ p ∷ []))
    (up : unmarked'.slot_count ≡ unmarked.slot_count) (ul : unmarked'.lists ≡ set unmarked.lists g (list_of unmarked g ++ p ∷ [])) where
  chosen : g < capacity
  chosen = chosen_within capacity order members order' members' groups keys p g key h within absent may

  appended : list_of order' 0 ≡ list_of order 0 ++ p ∷ []
  appended = ap (λ ls. get_or ls 0 []) ol ∙ get_or-set_same order.lists 0 (list_of order 0 ++ p ∷ []) [] (omega (arith, h.one))

  members_joined : (j : ℕ) → list_of members' j ≡ cond (eqb j g) (list_of members j ++ p ∷ []) (list_of members j)
  members_joined = joined_at members members' g p (omega (arith, h.member_lists, chosen)) ml

  unmarked_joined : (j : ℕ) → list_of unmarked' j ≡ cond (eqb j g) (list_of unmarked j ++ p ∷ []) (list_of unmarked j)
  unmarked_joined = joined_at unmarked unmarked' g p (omega (arith, m.lists, chosen)) ul

  -- the marked slots are as before
  same_marked : list_of unmarked' capacity ≡ list_of unmarked capacity
  same_marked =
      unmarked_joined capacity ∙ cond-false (eqb capacity g) (list_of unmarked capacity ++ p ∷ []) (list_of unmarked capacity) (ne_eqb capacity g (λ e. absurd (omega (arith, e, chosen))))

  own_unmarked : is_marked capacity unmarked p ≡ false
  own_unmarked = false_from_ne_true (is_marked capacity unmarked p) (λ i. false≢true (sym absent ∙ m.marked p i))

  unmarked_appended : (j : ℕ) → j < capacity → list_of unmarked' j ≡ filter (λ q. not (is_marked capacity unmarked' q)) (list_of members' j)
  unmarked_appended j below =
      let left = λ (q : ℕ). not (is_marked capacity unmarked q) in
      let xs = list_of members j in
      unmarked_joined j
      ∙ ap (λ ys. cond (eqb j g) (ys ++ p ∷ []) ys) (m.open_slots j below)
      ∙ (elim (eqb j g) as (λ b. cond b (filter left xs ++ p ∷ []) (filter left xs) ≡ filter left (cond b (xs ++ p ∷ []) xs)) [
        | true ↦ ap (λ ys. filter left xs ++ ys) (sym (cond-true (left p) (p ∷ []) [] (not_from_false (is_marked capacity unmarked p) own_unmarked))) ∙ sym (filter-append left xs (p ∷ []))
        | false ↦ refl
      ])
      ∙ ap (filter left) (sym (members_joined j))
      ∙ ap (λ zs. filter (λ q. not (is_in q zs)) (list_of members' j)) (sym same_marked)

  pub append_marked : IsMarked capacity order' members' unmarked'
  append_marked = record {
    slot_count = up ∙ m.slot_count;
    lists = ap length ul ∙ length-set unmarked.lists g (list_of unmarked g ++ p ∷ []) ∙ m.lists;
    open_slots = unmarked_appended;
    marked = λ q i. ap (is_in q) appended ∙ in_prefix q (list_of order 0) (p ∷ []) (m.marked q (ap (is_in q) (sym same_marked) ∙ i));
  }

  pub append_indexed : IsIndexed capacity order' members' (set groups p g) keys'
  append_indexed =
      subst (λ ks. IsIndexed capacity order' members' (set groups p g) ks) (sym ek)
      (indexed_append capacity order members order' members' groups keys p g key h within absent may op
      (ap length ol ∙ length-set order.lists 0 (list_of order 0 ++ p ∷ [])) mp (ap length ml ∙ length-set members.lists g (list_of members g ++ p ∷ [])) appended (λ j below. members_joined j))

  pub append_entries : entries_of order' keys' (set groups p g) (is_marked capacity unmarked') ≡ entries_of order keys groups (is_marked capacity unmarked) ++ record { key = key; place = p; marked = false } ∷ []
  append_entries =
      ap (λ ks. entries_of order' ks (set groups p g) (is_marked capacity unmarked')) ek
      ∙ entries_append capacity order members order' members' groups keys p g key h within absent may (is_marked capacity unmarked) (is_marked capacity unmarked')
      (λ q. ap (is_in q) same_marked) own_unmarked appended

module _ (capacity : ℕ) (order members unmarked order' members' unmarked' : Lists) (groups : List ℕ) (keys : List (Option ℕ)) (p g count : ℕ)
    (h : IsIndexed capacity order members groups keys) (m : IsMarked capacity order members unmarked) (listed : is_in p (list_of order 0) ≡ true) (own : g ≡ group_of groups p)
    (op : order'.slot_count ≡ order.slot_count) (ol : order'.lists ≡ map (without p) order.lists)
    (mp : members'.slot_count ≡ members.slot_count) (ml : members'.lists ≡ map (without p) members.lists)
    (up : unmarked'.slot_count ≡ unmarked.slot_count) (ul : unmarked'.lists ≡ map (without p) unmarked.lists) (counted : count ≡ length (list_of members' g)) where
  abbrev Removed : List (Option ℕ) → Type 0
  Removed ks = IsIndexed capacity order' members' groups ks × (entries_of order' ks groups (is_marked capacity unmarked') ≡ filter (λ x. not (is_at p x)) (entries_of order keys groups (is_marked capacity unmarked)))

  listed_left : list_of order' 0 ≡ without p (list_of order 0)
  listed_left = left_at order order' p ol 0 (omega (arith, h.one))

  members_left : (j : ℕ) → j < capacity → list_of members' j ≡ without p (list_of members j)
  members_left j below = left_at members members' p ml j (omega (arith, h.member_lists))

  unmarked_left : (j : ℕ) → j ≤ capacity → list_of unmarked' j ≡ without p (list_of unmarked j)
  unmarked_left j below = left_at unmarked unmarked' p ul j (omega (arith, m.lists))

  -- the others are marked as before
  marks_left : (q : ℕ) → (q ≡ p → ⊥) → is_marked capacity unmarked' q ≡ is_marked capacity unmarked q
  marks_left q ne = ap (is_in q) (unmarked_left capacity (omega arith)) ∙ without_other p q (list_of unmarked capacity) ne

  not_left : (q : ℕ) (xs : List ℕ) → is_in q (without p xs) ≡ true → q ≡ p → ⊥
  not_left q xs i s = differs q p (without p xs) i (without_same p xs) (sym s)

  unmarked_slots_left : (j : ℕ) → j < capacity → list_of unmarked' j ≡ filter (λ q. not (is_marked capacity unmarked' q)) (list_of members' j)
  unmarked_slots_left j below =
      let left = λ (q : ℕ). not (is_marked capacity unmarked q) in
      let left' = λ (q : ℕ). not (is_marked capacity unmarked' q) in
      unmarked_left j (omega arith) ∙ ap (without p) (m.open_slots j below) ∙ filter-filter (λ q. not (eqb q p)) left (list_of members j)
      ∙ sym (filter_on left' left (without p (list_of members j)) (λ q i. ap not (marks_left q (not_left q (list_of members j) i))))
      ∙ ap (filter left') (sym (members_left j below))

  pub remove_marked : IsMarked capacity order' members' unmarked'
  remove_marked = record {
    slot_count = up ∙ m.slot_count;
    lists = ap length ul ∙ length-map unmarked.lists (without p) ∙ m.lists;
    open_slots = unmarked_slots_left;
    marked = λ q i.
        let ne = not_left q (list_of unmarked capacity) (ap (is_in q) (sym (unmarked_left capacity (omega arith))) ∙ i) in
        ap (is_in q) listed_left ∙ without_other p q (list_of order 0) ne ∙ m.marked q (sym (marks_left q ne) ∙ i);
  }

  left_size : list_of members' g ≡ list_of members' (group_of groups p)
  left_size = ap (list_of members') own

  removed_with : (ks : List (Option ℕ)) → ((j : ℕ) → (j ≡ group_of groups p → ⊥) → get_or ks j None ≡ get_or keys j None) → Vacated keys ks (group_of groups p) (list_of members' (group_of groups p)) → length ks ≡ length keys → Removed ks
  removed_with ks others vacated size = (
    indexed_remove capacity order members order' members' groups keys ks p h listed listed_left members_left others vacated op
        (ap length ol ∙ length-map order.lists (without p)) mp (ap length ml ∙ length-map members.lists (without p)) size,
    entries_remove capacity order members order' members' groups keys ks p h listed listed_left members_left others vacated (is_marked capacity unmarked) (is_marked capacity unmarked') marks_left,
  )

  -- the group has a slot left, and stays
  pub remove_kept : (count ≡ 0 → ⊥) → Removed keys
  remove_kept some = removed_with keys (λ j ne. refl) (inr (refl, some_in (list_of members' (group_of groups p)) (λ e. some (counted ∙ ap length left_size ∙ e)))) refl

  -- the group has none, and is vacant from now on
  pub remove_last : (keys' : List (Option ℕ)) → keys' ≡ set keys g None → count ≡ 0 → Removed keys'
  remove_last keys' ek none =
      let own_key : keys' ≡ set keys (group_of groups p) None = ek ∙ ap (λ j. set keys j None) own in
      removed_with keys'
      (λ j ne. ap (λ ks. get_or ks j None) own_key ∙ get_or-set_other keys (group_of groups p) j None None ne)
      (inl (
        ap (λ ks. get_or ks (group_of groups p) None) own_key ∙ get_or-set_same keys (group_of groups p) None None (omega (arith, (h.within p listed).1, h.keyed)),
        nil_from_length (list_of members' (group_of groups p)) (sym (ap length left_size) ∙ sym counted ∙ none),
      ))
      (ap length own_key ∙ length-set keys (group_of groups p) None)

-- ---- an entry is marked

module _ (capacity : ℕ) (order members unmarked unmarked' : Lists) (groups : List ℕ) (keys : List (Option ℕ)) (p : ℕ)
    (m : IsMarked capacity order members unmarked) (listed : is_in p (list_of order 0) ≡ true)
    (up : unmarked'.slot_count ≡ unmarked.slot_count) (ul : unmarked'.lists ≡ moved p capacity unmarked.lists) where
  marks_joined : list_of unmarked' capacity ≡ without p (list_of unmarked capacity) ++ p ∷ []
  marks_joined =
      ap (λ ls. get_or ls capacity []) ul
      ∙ get_or-set_same (map (without p) unmarked.lists) capacity (without p (list_of unmarked capacity) ++ p ∷ []) [] (omega (arith, length-map unmarked.lists (without p), m.lists))

  own_marked : is_marked capacity unmarked' p ≡ true
  own_marked = ap (is_in p) marks_joined ∙ in_rest p (without p (list_of unmarked capacity)) (p ∷ []) (in_here p [])

  marks_kept : (q : ℕ) → (q ≡ p → ⊥) → is_marked capacity unmarked' q ≡ is_marked capacity unmarked q
  marks_kept q ne =
      ap (is_in q) marks_joined ∙ list_any-append (λ x. eqb x q) (without p (list_of unmarked capacity)) (p ∷ [])
      ∙ ap (λ b. is_in q (without p (list_of unmarked capacity)) || b) (apart_from p q [] (λ s. ne (sym s)) refl)
      ∙ or-false (is_in q (without p (list_of unmarked capacity)))
      ∙ without_other p q (list_of unmarked capacity) ne

  unmarked_without : (j : ℕ) → j < capacity → list_of unmarked' j ≡ without p (list_of unmarked j)
  unmarked_without j below =
      ap (λ ls. get_or ls j []) ul
      ∙ get_or-set_other (map (without p) unmarked.lists) capacity j (without p (list_of unmarked capacity) ++ p ∷ []) [] (λ e. absurd (omega (arith, e, below)))
      ∙ get_or-map (without p) unmarked.lists j [] [] (omega (arith, m.lists))

  fewer_unmarked : (q : ℕ) → (not (is_marked capacity unmarked q) && not (eqb q p)) ≡ not (is_marked capacity unmarked' q)
  fewer_unmarked q =
      ⊎_elim
      (λ (s : q ≡ p).
      ap (λ b. not (is_marked capacity unmarked q) && not b) (eq-eqb q p s) ∙ and-false (not (is_marked capacity unmarked q))
      ∙ sym (ap not (ap (is_marked capacity unmarked') s ∙ own_marked)))
      (λ (ne : q ≡ p → ⊥).
      ap (λ b. not (is_marked capacity unmarked q) && not b) (ne_eqb q p ne) ∙ and-true (not (is_marked capacity unmarked q))
      ∙ sym (ap not (marks_kept q ne)))
      (cases_eq q p)

  unmarked_fewer : (j : ℕ) → j < capacity → list_of unmarked' j ≡ filter (λ q. not (is_marked capacity unmarked' q)) (list_of members j)
  unmarked_fewer j below =
      let left = λ (q : ℕ). not (is_marked capacity unmarked q) in
      unmarked_without j below ∙ ap (without p) (m.open_slots j below) ∙ filter_both left (λ q. not (eqb q p)) (list_of members j)
      ∙ filter_on (λ q. left q && not (eqb q p)) (λ q. not (is_marked capacity unmarked' q)) (list_of members j) (λ q i. fewer_unmarked q)

  pub mark_marked : IsMarked capacity order members unmarked'
  mark_marked = record {
    slot_count = up ∙ m.slot_count;
    lists = ap length ul ∙ length-set (map (without p) unmarked.lists) capacity (without p (list_of unmarked capacity) ++ p ∷ []) ∙ length-map unmarked.lists (without p) ∙ m.lists;
    open_slots = unmarked_fewer;
    marked = λ q i.
        ⊎_elim (λ (s : q ≡ p). ap (λ x. is_in x (list_of order 0)) s ∙ listed)
        (λ (ne : q ≡ p → ⊥). m.marked q (sym (marks_kept q ne) ∙ i))
        (cases_eq q p);
  }

  marked_entries : (xs : List ℕ) → map (entry_of keys groups (is_marked capacity unmarked')) xs ≡ marked_at p (map (entry_of keys groups (is_marked capacity unmarked)) xs)
  marked_entries [] = refl
  marked_entries (x ∷ xs) =
      let old = entry_of keys groups (is_marked capacity unmarked) in
      let put = λ (b : Bool). record { key = key_at keys groups x; place = x; marked = b } ∷ map (entry_of keys groups (is_marked capacity unmarked')) xs in
      let more = λ (e : Entry). e ∷ marked_at p (map old xs) in
      let new : Entry = record { key = key_at keys groups x; place = x; marked = true } in
      ⊎_elim (λ (s : x ≡ p). ap put (ap (is_marked capacity unmarked') s ∙ own_marked) ∙ ap (λ es. new ∷ es) (marked_entries xs) ∙ ap more (sym (cond-true (eqb x p) new (old x) (eq-eqb x p s))))
      (λ (ne : x ≡ p → ⊥). ap put (marks_kept x ne) ∙ ap (λ es. old x ∷ es) (marked_entries xs) ∙ ap more (sym (cond-false (eqb x p) new (old x) (ne_eqb x p ne))))
      (cases_eq x p)

  pub mark_entries : entries_of order keys groups (is_marked capacity unmarked') ≡ marked_at p (entries_of order keys groups (is_marked capacity unmarked))
  mark_entries =
      entries_are order keys groups (is_marked capacity unmarked') ∙ marked_entries (list_of order 0)
      ∙ ap (marked_at p) (sym (entries_are order keys groups (is_marked capacity unmarked)))
