-- The promise of a message is used: its place is found in the list of the bucket of its name, as the first in the order in which the promises were learnt.
use Rattle.std.proofs.Common.{◌≡◌, ℕ, ◌<◌, Bool, true, false, not, cond, ◌&&◌, List, [], ◌∷◌, length, get_or, map, Some, None, Option, refl, sym, ap, ◌∙◌, eqb, ⊎_elim}
use Rattle.std.specs.Prelude.{bytes_eq, find}
use Rattle.std.specs.List.{filter, list_any}
use Rattle.std.proofs.Math.ListN.{set}
use Rattle.std.proofs.lemmas.Bool.{and_parts, cases_Bool, cases_eq, cond-false, cond-true, eq-eqb, eqb-true, false≢true, or_from, or_left, or_parts, or_right}
use Rattle.std.proofs.lemmas.List.{get_or-set_other, get_or-set_same, get_or_read_under, length-set}
use Rattle.std.proofs.lemmas.Option.{none-some, same_Some}
use Rattle.tesla_base.specs.Members.{Distinct, is_in}
use Rattle.tesla_base.specs.declared.names.Name.{Name}
use Rattle.tesla_base.proofs.Filtered.{filter_on, map_on}
use Rattle.tesla_base.proofs.Members.{differs, in_here, in_there}
use Rattle.tesla_links.specs.Lists.{Lists, list_of}
use Rattle.tesla_early.specs.Kept.{is_of_message, is_of_name, use_first_kept}
use Rattle.tesla_early.specs.Ring.{IsRing, bucket_of, is_found, is_in_bucket, kept_at, kept_in, no_slot, order_of, slot_at}
use Rattle.tesla_early.specs.Stands.{Kept}
use Rattle.tesla_early.specs.declared.promises.Slot.{Slot}

-- ---- uses

-- where none passes the test, none is used
pub none_used : (test : Kept → Bool) (ks : List Kept) → list_any test ks ≡ false → use_first_kept test ks ≡ ks
none_used test [] none = refl
none_used test (k ∷ ks) none =
    let parts = or_parts (test k) (list_any test ks) none in
    cond-false (test k) (record k { used = true } ∷ ks) (k ∷ use_first_kept test ks) parts.0 ∙ ap (λ xs. k ∷ xs) (none_used test ks parts.1)

-- ---- what is found

-- among what passes another test, the first that passes a test that asks for more is the first of all
find_kept : (p q : ℕ → Bool) (xs : List ℕ) → ((x : ℕ) → p x ≡ true → q x ≡ true) → find p (filter q xs) ≡ find p xs
find_kept p q [] more = refl
find_kept p q (x ∷ xs) more =
    let rest = find_kept p q xs more in
    ⊎_elim
    (λ (yes : q x ≡ true). ap (find p) (cond-true (q x) (x ∷ filter q xs) (filter q xs) yes) ∙ ap (λ o. cond (p x) (Some x) o) rest)
    (λ (no : q x ≡ false).
    let fails : p x ≡ false = ⊎_elim (λ (y : p x ≡ true). absurd (false≢true (sym no ∙ more x y))) (λ (n : p x ≡ false). n) (cases_Bool (p x)) in
    ap (find p) (cond-false (q x) (x ∷ filter q xs) (filter q xs) no) ∙ rest ∙ sym (cond-false (p x) (Some x) (find p xs) fails))
    (cases_Bool (q x))

module _ (slots : List Slot) (name : Name) (hash : List ℕ) where
  abbrev test : Kept → Bool
  test = is_of_message name hash

  abbrev found : ℕ → Bool
  found = is_found slots name hash

  -- what is found is in the bucket of the name
  found_bucket : (most p : ℕ) → found p ≡ true → is_in_bucket most slots (bucket_of most name) p ≡ true
  found_bucket most p h =
      let slot = slot_at slots p in
      let own = slot.promise.name in
      let named = (and_parts (is_of_name name (kept_in slot)) (bytes_eq slot.promise.hash hash) h).0 in
      let same = (and_parts (not slot.used) (eqb own.interval name.interval && eqb own.number name.number) named).1 in
      let fields = and_parts (eqb own.interval name.interval) (eqb own.number name.number) same in
      let interval : own.interval ≡ name.interval = eqb-true own.interval name.interval fields.0 in
      let number : own.number ≡ name.number = eqb-true own.number name.number fields.1 in
      eq-eqb (bucket_of most own) (bucket_of most name)
      (ap (λ (n : ℕ). bucket_of most (record { interval = n; number = own.number })) interval
      ∙ ap (λ (n : ℕ). bucket_of most (record { interval = name.interval; number = n })) number)

  -- so it's found in the list of that bucket
  pub found_listed : (most count next : ℕ) (buckets : Lists) → IsRing most count next buckets slots → (b : ℕ) → b ≡ bucket_of most name → b < most → find found (list_of buckets b) ≡ find found (order_of count next)
  found_listed most count next buckets r b own below =
      ap (find found) (r.listed b below)
      ∙ find_kept found (is_in_bucket most slots b) (order_of count next) (λ p h. ap (λ n. is_in_bucket most slots n p) own ∙ found_bucket most p h)

  -- what is found in the list of its bucket, where the table is known under another name
  pub found_in_order : (most count next : ℕ) (buckets : Lists) (table : List Slot) (b : ℕ) (o : Option ℕ) → IsRing most count next buckets slots → table ≡ slots → b ≡ bucket_of most name → b < most
      → o ≡ find (is_found table name hash) (list_of buckets b) → o ≡ find found (order_of count next)
  found_in_order most count next buckets table b o r same own below h =
      h ∙ ap (λ (ss : List Slot). find (is_found ss name hash) (list_of buckets b)) same ∙ found_listed most count next buckets r b own below

  -- none is found
  pub none_kept : (ps : List ℕ) → None ≡ find found ps → list_any test (map (kept_at slots) ps) ≡ false
  none_kept [] h = refl
  none_kept (p ∷ ps) h =
      ⊎_elim
      (λ (y : found p ≡ true). absurd (none-some p (h ∙ cond-true (found p) (Some p) (find found ps) y)))
      (λ (no : found p ≡ false). or_from (found p) (list_any test (map (kept_at slots) ps)) no (none_kept ps (h ∙ cond-false (found p) (Some p) (find found ps) no)))
      (cases_Bool (found p))

  -- one is found
  pub found_index : (ps : List ℕ) (index : ℕ) → Some index ≡ find found ps → is_in index ps ≡ true
  found_index [] index h = absurd (none-some index (sym h))
  found_index (p ∷ ps) index h =
      ⊎_elim
      (λ (y : found p ≡ true).
      let here : index ≡ p = same_Some index p (h ∙ cond-true (found p) (Some p) (find found ps) y) in
      ap (λ x. is_in x (p ∷ ps)) here ∙ in_here p ps)
      (λ (no : found p ≡ false). in_there p index ps (found_index ps index (h ∙ cond-false (found p) (Some p) (find found ps) no)))
      (cases_Bool (found p))

  pub one_kept : (ps : List ℕ) (index : ℕ) → Some index ≡ find found ps → list_any test (map (kept_at slots) ps) ≡ true
  one_kept [] index h = absurd (none-some index (sym h))
  one_kept (p ∷ ps) index h =
      let rest = list_any test (map (kept_at slots) ps) in
      ⊎_elim
      (λ (y : found p ≡ true). or_left (found p) rest y)
      (λ (no : found p ≡ false). or_right (found p) rest (one_kept ps index (h ∙ cond-false (found p) (Some p) (find found ps) no)))
      (cases_Bool (found p))

-- ---- its slot is used

-- the slot of a place, used
abbrev pub used_slot : List Slot → ℕ → Slot
used_slot slots index = record { promise = (slot_at slots index).promise; used = true }

-- the slot that was read at a place, used
pub used_is : (slots : List Slot) (index : ℕ) (slot : Slot) → index < length slots → slot ≡ get_or slots index slot → (let used : Slot = record { promise = slot.promise; used = true } in used) ≡ used_slot slots index
used_is slots index slot within same =
    ap (λ (s : Slot). (let used : Slot = record { promise = s.promise; used = true } in used)) (get_or_read_under slots index (length slots) slot no_slot same within refl)

module _ (slots : List Slot) (index : ℕ) (within : index < length slots) where
  abbrev marked : List Slot
  marked = set slots index (used_slot slots index)

  slot_here : slot_at marked index ≡ used_slot slots index
  slot_here = get_or-set_same slots index (used_slot slots index) no_slot within

  slot_there : (p : ℕ) → (p ≡ index → ⊥) → slot_at marked p ≡ slot_at slots p
  slot_there p other = get_or-set_other slots index p (used_slot slots index) no_slot other

  -- the promises of all places stay
  same_promise : (p : ℕ) → (slot_at marked p).promise ≡ (slot_at slots p).promise
  same_promise p =
      ⊎_elim
      (λ (here : p ≡ index). ap (λ x. (slot_at marked x).promise) here ∙ ap (λ (s : Slot). s.promise) slot_here ∙ ap (λ x. (slot_at slots x).promise) (sym here))
      (λ (other : p ≡ index → ⊥). ap (λ (s : Slot). s.promise) (slot_there p other))
      (cases_eq p index)

  pub ring_marked : (most count next : ℕ) (buckets : Lists) → IsRing most count next buckets slots → IsRing most count next buckets marked
  ring_marked most count next buckets r = record {
    some = r.some;
    few = r.few;
    within = r.within;
    taken = r.taken;
    slot_count = r.slot_count;
    lists = r.lists;
    long = length-set slots index (used_slot slots index) ∙ r.long;
    listed = λ b below.
        r.listed b below
        ∙ filter_on (is_in_bucket most slots b) (is_in_bucket most marked b) (order_of count next)
        (λ p there. ap (λ promise. eqb (bucket_of most promise.name) b) (sym (same_promise p)));
  }

  -- the first promise that passes is used
  pub one_used : (name : Name) (hash : List ℕ) (ps : List ℕ) → Distinct ps → Some index ≡ find (is_found slots name hash) ps → map (kept_at marked) ps ≡ use_first_kept (is_of_message name hash) (map (kept_at slots) ps)
  one_used name hash [] d h = absurd (none-some index (sym h))
  one_used name hash (p ∷ ps) d h =
      let found = is_found slots name hash in
      let x = kept_at slots p in
      let xs = map (kept_at slots) ps in
      let later = use_first_kept (is_of_message name hash) xs in
      ⊎_elim
      (λ (y : found p ≡ true).
      let here : index ≡ p = same_Some index p (h ∙ cond-true (found p) (Some p) (find found ps) y) in
      ap (λ k. k ∷ map (kept_at marked) ps) (ap (kept_at marked) (sym here) ∙ ap kept_in slot_here ∙ ap (λ q. record (kept_at slots q) { used = true }) here)
      ∙ ap (λ ks. record x { used = true } ∷ ks) (map_on (kept_at marked) (kept_at slots) ps (λ q there. ap kept_in (slot_there q (λ same. differs q p ps there d.0 (sym (same ∙ here))))))
      ∙ sym (cond-true (found p) (record x { used = true } ∷ xs) (x ∷ later) y))
      (λ (no : found p ≡ false).
      let there : Some index ≡ find found ps = h ∙ cond-false (found p) (Some p) (find found ps) no in
      let other : p ≡ index → ⊥ = differs index p ps (found_index slots name hash ps index there) d.0 in
      ap (λ s. kept_in s ∷ map (kept_at marked) ps) (slot_there p other)
      ∙ ap (λ ks. x ∷ ks) (one_used name hash ps d.1 there)
      ∙ sym (cond-false (found p) (record x { used = true } ∷ xs) (x ∷ later) no))
      (cases_Bool (found p))
