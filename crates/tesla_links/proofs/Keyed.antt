-- A table of keys: how its slots are read, and what a place that moves to another list leaves.
use Rattle.std.proofs.Common.{◌≡◌, ℕ, zero, suc, ◌+◌, ◌*◌, ◌/◌, ◌%◌, ◌^◌, ◌<◌, ◌≤◌, Bool, true, false, cond, ◌||◌, List, [], ◌∷◌, ◌++◌, length, get_or, map, replicate, Some, None, Option, refl, sym, ap, subst, ◌∙◌, arith, eqb, ◌⊎◌, inl, inr, ⊎_elim}
use Rattle.std.specs.List.{list_any, range_with_len}
use Rattle.std.specs.Option.{MatchOption}
use Rattle.std.specs.Prelude.{slice_get}
use Rattle.std.proofs.Math.ListN.{set}
use Rattle.std.proofs.lemmas.Bool.{cases_eq, cond-false, cond-true, eq-eqb, eqb-true, false_from_ne_true, false≢true, or_cases, or_left, or_right}
use Rattle.std.proofs.lemmas.List.{ext_get_or, get_or-map, get_or-replicate, get_or-set_other, get_or-set_same, length-map, length-replicate, length-set, set-get_or, set-set}
use Rattle.std.proofs.lemmas.List.FromFn.{get_or-map-range_with_len, length-map-range_with_len}
use Rattle.std.proofs.lemmas.List.Folds.{list_any-append}
use Rattle.std.proofs.Math.Bool.{or-false}
use Rattle.std.proofs.lemmas.Option.{none-some, slice_get-get_or}
use Rattle.tesla_base.specs.Members.{is_in, without}
use Rattle.tesla_links.specs.Lists.{Lists, list_of, moved}
use Rattle.tesla_links.specs.Slots.{Slots, has_key, is_vacant}
use Rattle.tesla_links.specs.Tables.{IsKeyed, bucket_of, chain_of, slots_of}
use Rattle.tesla_links.specs.declared.key_table.KeyTable.TheInside.{Inside}
use Rattle.tesla_links.proofs.Linked.{range_more}
use Rattle.tesla_base.proofs.Members.{apart_from, in_cases, in_got, in_here, in_rest, range_has, range_in, somewhere, without_other, without_same}

-- ---- buckets

pub bucket_is : (buckets key : ℕ) → bucket_of buckets key ≡ (key % 2 ^ 32 + key / 2 ^ 32 * 40503) % buckets
unfolding bucket_of
bucket_is buckets key = refl

pub bucket_within : (buckets key : ℕ) → 1 ≤ buckets → bucket_of buckets key < buckets
unfolding bucket_of
bucket_within buckets key some = omega arith

-- a slot is vacant or has a key
slot_cases : (o : Option ℕ) → (o ≡ None) ⊎ ((key : ℕ) × (o ≡ Some key))
slot_cases None = inl refl
slot_cases (Some key) = inr (key, refl)

-- the list of a slot is one of the lists
chain_within : (capacity : ℕ) (slot : Option ℕ) → 1 ≤ capacity → chain_of capacity slot ≤ capacity
chain_within capacity None some = omega arith
chain_within capacity (Some key) some = omega (arith, bucket_within capacity key some)

-- ---- the view

-- the slots that are read off the fields
pub slots_of_is : (capacity : ℕ) (chains : Lists) (keys : List ℕ) (slots : List (Option ℕ)) → IsKeyed capacity chains keys slots → slots_of capacity chains keys ≡ slots
unfolding slots_of
slots_of_is capacity chains keys slots h =
    let read = λ (p : ℕ). cond (is_in p (list_of chains capacity)) None (Some (get_or keys p 0)) in
    let size : length (map read (range_with_len 0 capacity)) ≡ length slots = length-map-range_with_len read 0 capacity ∙ sym h.slotted in
    ext_get_or None (map read (range_with_len 0 capacity)) slots size
    (λ p below.
    let inside : p < capacity = omega (arith, h.slotted) in
    get_or-map-range_with_len read 0 capacity p p None inside (omega arith)
    ∙ ⊎_elim
    (λ (e : get_or slots p None ≡ None).
    let vacant : is_in p (list_of chains capacity) ≡ true = subst (λ o. is_in p (list_of chains (chain_of capacity o)) ≡ true) e (h.chained p inside) in
    cond-true (is_in p (list_of chains capacity)) None (Some (get_or keys p 0)) vacant ∙ sym e)
    (λ (k : (key : ℕ) × (get_or slots p None ≡ Some key)).
    let taken : is_in p (list_of chains capacity) ≡ false = false_from_ne_true (is_in p (list_of chains capacity)) (λ i.
    let there : bucket_of capacity k.0 ≡ capacity = sym (ap (chain_of capacity) k.1) ∙ (h.only p capacity (omega arith) i).1 in
    omega (arith, there, bucket_within capacity k.0 h.some)) in
    cond-false (is_in p (list_of chains capacity)) None (Some (get_or keys p 0)) taken ∙ ap Some (h.key p k.0 k.1) ∙ sym k.1)
    (slot_cases (get_or slots p None)))

pub at_view : (capacity : ℕ) (chains : Lists) (keys : List ℕ) (seen : List (Option ℕ)) → slots_of capacity chains keys ≡ seen → IsKeyed capacity chains keys (slots_of capacity chains keys) → IsKeyed capacity chains keys seen
at_view capacity chains keys seen e h = subst (λ slots. IsKeyed capacity chains keys slots) e h

pub in_view : (capacity : ℕ) (chains : Lists) (keys : List ℕ) (slots : List (Option ℕ)) → IsKeyed capacity chains keys slots → IsKeyed capacity chains keys (slots_of capacity chains keys)
in_view capacity chains keys slots h = subst (λ s. IsKeyed capacity chains keys s) (sym (slots_of_is capacity chains keys slots h)) h

-- ---- a slot moves to another list

module _ (p to : ℕ) (lists : List (List ℕ)) where
  moved_to : to < length lists → is_in p (get_or (moved p to lists) to []) ≡ true
  moved_to below =
      ap (is_in p) (get_or-set_same (map (without p) lists) to (without p (get_or lists to []) ++ p ∷ []) [] (omega (arith, length-map lists (without p))))
      ∙ in_rest p (without p (get_or lists to [])) (p ∷ []) (in_here p [])

  moved_from : (j : ℕ) → j < length lists → (j ≡ to → ⊥) → is_in p (get_or (moved p to lists) j []) ≡ false
  moved_from j below ne =
      ap (is_in p) (get_or-set_other (map (without p) lists) to j (without p (get_or lists to []) ++ p ∷ []) [] ne ∙ get_or-map (without p) lists j [] [] below)
      ∙ without_same p (get_or lists j [])

  moved_other : (q j : ℕ) → j < length lists → (q ≡ p → ⊥) → is_in q (get_or (moved p to lists) j []) ≡ is_in q (get_or lists j [])
  moved_other q j below ne =
      ⊎_elim
      (λ (e : j ≡ to).
      ap (λ i. is_in q (get_or (moved p to lists) i [])) e
      ∙ ap (is_in q) (get_or-set_same (map (without p) lists) to (without p (get_or lists to []) ++ p ∷ []) [] (omega (arith, length-map lists (without p))))
      ∙ list_any-append (λ x. eqb x q) (without p (get_or lists to [])) (p ∷ [])
      ∙ ap (λ b. is_in q (without p (get_or lists to [])) || b) (apart_from p q [] (λ s. ne (sym s)) refl)
      ∙ or-false (is_in q (without p (get_or lists to [])))
      ∙ without_other p q (get_or lists to []) ne
      ∙ ap (λ i. is_in q (get_or lists i [])) (sym e))
      (λ (other : j ≡ to → ⊥).
      ap (is_in q) (get_or-set_other (map (without p) lists) to j (without p (get_or lists to []) ++ p ∷ []) [] other ∙ get_or-map (without p) lists j [] [] below)
      ∙ without_other p q (get_or lists j []) ne)
      (cases_eq j to)

-- a place gets another slot, and stands in the list of it
pub slot_set : (capacity : ℕ) (chains : Lists) (keys : List ℕ) (slots : List (Option ℕ)) (p : ℕ) (slot : Option ℕ) (chains' : Lists) (keys' : List ℕ)
    → IsKeyed capacity chains keys slots → p < capacity
    → chains'.slot_count ≡ chains.slot_count → chains'.lists ≡ moved p (chain_of capacity slot) chains.lists
    → length keys' ≡ length keys → ((k : ℕ) → slot ≡ Some k → get_or keys' p 0 ≡ k) → ((q : ℕ) → (q ≡ p → ⊥) → get_or keys' q 0 ≡ get_or keys q 0)
    → IsKeyed capacity chains' keys' (set slots p slot)
slot_set capacity chains keys slots p slot chains' keys' h within same lists size key others =
    let to = chain_of capacity slot in
    let below : to < length chains.lists = omega (arith, chain_within capacity slot h.some, h.lists) in
    let at : get_or (set slots p slot) p None ≡ slot = get_or-set_same slots p slot None (omega (arith, h.slotted)) in
    let seen = λ (q j : ℕ). ap (λ ls. is_in q (get_or ls j [])) lists in
    let SetAt : ℕ → Type 0 = λ q. (k : ℕ) → get_or (set slots p slot) q None ≡ Some k → get_or keys' q 0 ≡ k in
    let Chained : ℕ → Type 0 = λ q. is_in q (list_of chains' (chain_of capacity (get_or (set slots p slot) q None))) ≡ true in
    record {
      some = h.some;
      most = h.most;
      slot_count = same ∙ h.slot_count;
      lists = ap length lists ∙ length-set (map (without p) chains.lists) to (without p (get_or chains.lists to []) ++ p ∷ []) ∙ length-map chains.lists (without p) ∙ h.lists;
      keyed = size ∙ h.keyed;
      slotted = length-set slots p slot ∙ h.slotted;
      key = λ q.
          ⊎_elim (λ (e : q ≡ p). subst SetAt (sym e) (λ k is. key k (sym at ∙ is)))
          (λ (ne : q ≡ p → ⊥). λ k is. others q ne ∙ h.key q k (sym (get_or-set_other slots p q slot None ne) ∙ is))
          (cases_eq q p);
      chained = λ q inside.
          ⊎_elim
          (λ (e : q ≡ p). subst Chained (sym e) (ap (λ o. is_in p (list_of chains' (chain_of capacity o))) at ∙ seen p to ∙ moved_to p to chains.lists below))
          (λ (ne : q ≡ p → ⊥).
          let j = chain_of capacity (get_or slots q None) in
          ap (λ o. is_in q (list_of chains' (chain_of capacity o))) (get_or-set_other slots p q slot None ne)
          ∙ seen q j ∙ moved_other p to chains.lists q j (omega (arith, chain_within capacity (get_or slots q None) h.some, h.lists)) ne ∙ h.chained q inside)
          (cases_eq q p);
      only = λ q j inside i.
          ⊎_elim
          (λ (e : q ≡ p).
          let here : is_in p (get_or (moved p to chains.lists) j []) ≡ true = sym (seen p j) ∙ ap (λ x. is_in x (list_of chains' j)) (sym e) ∙ i in
          let there : j ≡ to = ⊎_elim (λ (f : j ≡ to). f)
          (λ (ne : j ≡ to → ⊥). absurd (false≢true (sym (moved_from p to chains.lists j (omega (arith, h.lists)) ne) ∙ here)))
          (cases_eq j to) in
          (omega arith, ap (λ x. chain_of capacity (get_or (set slots p slot) x None)) e ∙ ap (chain_of capacity) at ∙ sym there))
          (λ (ne : q ≡ p → ⊥).
          let old = h.only q j inside (sym (moved_other p to chains.lists q j (omega (arith, h.lists)) ne) ∙ sym (seen q j) ∙ i) in
          (old.0, ap (chain_of capacity) (get_or-set_other slots p q slot None ne) ∙ old.1))
          (cases_eq q p);
    }

-- a slot stands in some list
pub slot_somewhere : (capacity : ℕ) (chains : Lists) (keys : List ℕ) (slots : List (Option ℕ)) (p : ℕ) → IsKeyed capacity chains keys slots → p < capacity → list_any (is_in p) chains.lists ≡ true
slot_somewhere capacity chains keys slots p h within = somewhere p chains.lists (chain_of capacity (get_or slots p None)) (h.chained p within)

-- ---- what is found

-- an element of a list that passes
in_any : (f : ℕ → Bool) (p : ℕ) (xs : List ℕ) → is_in p xs ≡ true → f p ≡ true → list_any f xs ≡ true
in_any f p [] i e = i
in_any f p (x ∷ xs) i e =
    ⊎_elim (λ (s : x ≡ p). or_left (f x) (list_any f xs) (ap f s ∙ e))
    (λ (more : is_in p xs ≡ true). or_right (f x) (list_any f xs) (in_any f p xs more e))
    (in_cases x p xs i)

-- a list without a first element
empty : (xs : List ℕ) → slice_get xs 0 ≡ None → xs ≡ []
empty [] h = refl
empty (x ∷ xs) h = absurd (none-some x (sym h))

-- copies of one element, also past the end
pub replicate_same : {X : Type 0} (n p : ℕ) (x : X) → get_or (replicate n x) p x ≡ x
replicate_same zero p x = refl
replicate_same (suc n) zero x = refl
replicate_same (suc n) (suc p) x = replicate_same n p x

-- an element that passes a test stands somewhere
pub any_slot : (f : Option ℕ → Bool) (slots : List (Option ℕ)) → list_any f slots ≡ true → (p : ℕ) × (p < length slots) × (f (get_or slots p None) ≡ true)
any_slot f [] h = absurd (false≢true h)
any_slot f (x ∷ slots) h =
    ⊎_elim (λ (e : f x ≡ true). (0, omega arith, e))
    (λ (more : list_any f slots ≡ true). let m = any_slot f slots more in (suc m.0, omega (arith, m.1), m.2))
    (or_cases (f x) (list_any f slots) h)

has_key_is : (key : ℕ) (o : Option ℕ) → has_key key o ≡ true → o ≡ Some key
has_key_is key None h = absurd (false≢true h)
has_key_is key (Some k) h = ap Some (eqb-true k key h)

is_vacant_is : (o : Option ℕ) → is_vacant o ≡ true → o ≡ None
is_vacant_is None h = refl
is_vacant_is (Some k) h = absurd (false≢true h)

module _ (capacity : ℕ) (chains : Lists) (keys : List ℕ) (slots : List (Option ℕ)) where
  -- a slot with the key in the list of its bucket has the key
  pub found : (key p : ℕ) → IsKeyed capacity chains keys slots → is_in p (list_of chains (bucket_of capacity key)) ≡ true → get_or keys p 0 ≡ key → slice_get slots p ≡ Some (Some key)
  found key p h i e =
      let within = bucket_within capacity key h.some in
      let own = h.only p (bucket_of capacity key) (omega (arith, within)) i in
      let slot : get_or slots p None ≡ Some key =
      ⊎_elim
      (λ (v : get_or slots p None ≡ None). let there : capacity ≡ bucket_of capacity key = sym (ap (chain_of capacity) v) ∙ own.1 in absurd (omega (arith, there, within)))
      (λ (k : (key' : ℕ) × (get_or slots p None ≡ Some key')). k.1 ∙ ap Some (sym (h.key p k.0 k.1) ∙ e))
      (slot_cases (get_or slots p None)) in
      slice_get-get_or slots p None (omega (arith, own.0, h.slotted)) ∙ ap Some slot

  -- where there is none in it, no slot has the key
  pub not_found : (key : ℕ) → IsKeyed capacity chains keys slots → list_any (λ p. eqb (get_or keys p 0) key) (list_of chains (bucket_of capacity key)) ≡ false → list_any (has_key key) slots ≡ false
  not_found key h none =
      false_from_ne_true (list_any (has_key key) slots) (λ some.
      let at = any_slot (has_key key) slots some in
      let slot : get_or slots at.0 None ≡ Some key = has_key_is key (get_or slots at.0 None) at.2 in
      let i : is_in at.0 (list_of chains (bucket_of capacity key)) ≡ true = subst (λ o. is_in at.0 (list_of chains (chain_of capacity o)) ≡ true) slot (h.chained at.0 (omega (arith, at.1, h.slotted))) in
      false≢true (sym none ∙ in_any (λ p. eqb (get_or keys p 0) key) at.0 (list_of chains (bucket_of capacity key)) i (eq-eqb _ _ (h.key at.0 key slot))))

  -- the first slot of the list of vacant ones is vacant
  pub found_vacant : (p : ℕ) → IsKeyed capacity chains keys slots → slice_get (list_of chains capacity) 0 ≡ Some p → slice_get slots p ≡ Some None
  found_vacant p h e =
      let own = h.only p capacity (omega arith) (in_got (list_of chains capacity) 0 p e) in
      let slot : get_or slots p None ≡ None =
      ⊎_elim (λ (v : get_or slots p None ≡ None). v)
      (λ (k : (key' : ℕ) × (get_or slots p None ≡ Some key')). let there : bucket_of capacity k.0 ≡ capacity = sym (ap (chain_of capacity) k.1) ∙ own.1 in absurd (omega (arith, there, bucket_within capacity k.0 h.some)))
      (slot_cases (get_or slots p None)) in
      slice_get-get_or slots p None (omega (arith, own.0, h.slotted)) ∙ ap Some slot

  -- where that list is empty, no slot is
  pub none_vacant : IsKeyed capacity chains keys slots → slice_get (list_of chains capacity) 0 ≡ None → list_any is_vacant slots ≡ false
  none_vacant h e =
      false_from_ne_true (list_any is_vacant slots) (λ some.
      let at = any_slot is_vacant slots some in
      let slot : get_or slots at.0 None ≡ None = is_vacant_is (get_or slots at.0 None) at.2 in
      let i : is_in at.0 (list_of chains capacity) ≡ true = subst (λ o. is_in at.0 (list_of chains (chain_of capacity o)) ≡ true) slot (h.chained at.0 (omega (arith, at.1, h.slotted))) in
      false≢true (ap (is_in at.0) (sym (empty (list_of chains capacity) e)) ∙ i))

  -- so the first of the list is a vacant slot, or there is none
  pub first_vacant : IsKeyed capacity chains keys slots → (o : Option ℕ) → o ≡ slice_get (list_of chains capacity) 0 → MatchOption o (list_any is_vacant slots ≡ false) (λ p. slice_get slots p ≡ Some None)
  first_vacant h None e = none_vacant h (sym e)
  first_vacant h (Some p) e = found_vacant p h (sym e)

  -- what is found in the list of the key's bucket
  pub found_in : (key : ℕ) → IsKeyed capacity chains keys slots → (o : Option ℕ)
      → MatchOption o (list_any (λ p. eqb (get_or keys p 0) key) (list_of chains (bucket_of capacity key)) ≡ false) (λ p. (is_in p (list_of chains (bucket_of capacity key)) ≡ true) × (get_or keys p 0 ≡ key))
      → MatchOption o (list_any (has_key key) slots ≡ false) (λ p. slice_get slots p ≡ Some (Some key))
  found_in key h None m = not_found key h m
  found_in key h (Some p) m = found key p h m.0 m.1

-- ---- at the opening

-- the vacant slots, before the first of them
pub vacant_none : (capacity : ℕ) (chains : Lists) → ◌≡◌ {A = Lists} chains (record { slot_count = capacity; lists = replicate (capacity + 1) []; reserved = chains.reserved })
    → ◌≡◌ {A = Lists} chains (record { slot_count = capacity; lists = set (replicate (capacity + 1) []) capacity (range_with_len 0 0); reserved = chains.reserved })
vacant_none capacity chains e =
    let none : List ℕ = [] in
    let empties : List (List ℕ) = replicate (capacity + 1) none in
    let same : set empties capacity none ≡ empties = ap (set empties capacity) (sym (replicate_same (capacity + 1) capacity none)) ∙ set-get_or empties capacity none in
    e ∙ ap (λ ls. record { slot_count = capacity; lists = ls; reserved = chains.reserved }) (sym same)

-- one vacant slot more
pub vacant_more : (capacity slot : ℕ) (chains chains' : Lists) → ◌≡◌ {A = Lists} chains (record { slot_count = capacity; lists = set (replicate (capacity + 1) []) capacity (range_with_len 0 slot); reserved = chains.reserved })
    → chains'.slot_count ≡ chains.slot_count → chains'.lists ≡ set chains.lists capacity (get_or chains.lists capacity [] ++ slot ∷ [])
    → ◌≡◌ {A = Lists} chains' (record { slot_count = capacity; lists = set (replicate (capacity + 1) []) capacity (range_with_len 0 (slot + 1)); reserved = chains'.reserved })
vacant_more capacity slot chains chains' e same appended =
    let none : List ℕ = [] in
    let empties : List (List ℕ) = replicate (capacity + 1) none in
    let old : List (List ℕ) = set empties capacity (range_with_len 0 slot) in
    let seen : chains.lists ≡ old = ap (λ (v : Lists). v.lists) e in
    let long : length empties ≡ capacity + 1 = length-replicate (capacity + 1) none in
    let at : get_or old capacity [] ≡ range_with_len 0 slot = get_or-set_same empties capacity (range_with_len 0 slot) [] (omega arith) in
    let lists : chains'.lists ≡ set empties capacity (range_with_len 0 (slot + 1)) =
    appended ∙ ap (λ ls. set ls capacity (get_or ls capacity [] ++ slot ∷ [])) seen
    ∙ ap (λ xs. set old capacity (xs ++ slot ∷ [])) at ∙ ap (set old capacity) (range_more slot)
    ∙ set-set empties capacity (range_with_len 0 slot) (range_with_len 0 (slot + 1)) in
    let slot_count : chains'.slot_count ≡ capacity = same ∙ ap (λ (v : Lists). v.slot_count) e in
    let first : ◌≡◌ {A = Lists} chains' (record { slot_count = capacity; lists = chains'.lists; reserved = chains'.reserved }) = ap (λ n. record { slot_count = n; lists = chains'.lists; reserved = chains'.reserved }) slot_count in
    first ∙ ap (λ ls. record { slot_count = capacity; lists = ls; reserved = chains'.reserved }) lists

-- all slots are vacant
pub opened : (capacity : ℕ) (chains : Lists) (keys : List ℕ) → 1 ≤ capacity → capacity ≤ 65536
    → ◌≡◌ {A = Lists} chains (record { slot_count = capacity; lists = set (replicate (capacity + 1) []) capacity (range_with_len 0 capacity); reserved = chains.reserved }) → length keys ≡ capacity
    → IsKeyed capacity chains keys (replicate capacity None)
opened capacity chains keys some most e size =
    let empties : List (List ℕ) = replicate (capacity + 1) [] in
    let lists : chains.lists ≡ set empties capacity (range_with_len 0 capacity) = ap (λ (v : Lists). v.lists) e in
    let long : length empties ≡ capacity + 1 = length-replicate (capacity + 1) [] in
    let vacant : list_of chains capacity ≡ range_with_len 0 capacity = ap (λ ls. get_or ls capacity []) lists ∙ get_or-set_same empties capacity (range_with_len 0 capacity) [] (omega arith) in
    let none : Option ℕ = None in
    let slot = λ (p : ℕ). replicate_same capacity p none in
    record {
      some = some;
      most = most;
      slot_count = ap (λ (v : Lists). v.slot_count) e;
      lists = ap length lists ∙ length-set empties capacity (range_with_len 0 capacity) ∙ long;
      keyed = size;
      slotted = length-replicate capacity None;
      key = λ p k is. absurd (none-some k (sym (slot p) ∙ is));
      chained = λ p inside.
          ap (λ o. is_in p (list_of chains (chain_of capacity o))) (slot p) ∙ ap (is_in p) vacant ∙ range_has 0 capacity p (omega arith) (omega arith);
      only = λ p j inside i.
          ⊎_elim
          (λ (f : j ≡ capacity).
          let r = range_in 0 capacity p (ap (is_in p) (sym vacant) ∙ ap (λ n. is_in p (list_of chains n)) (sym f) ∙ i) in
          (omega (arith, r.1), ap (chain_of capacity) (slot p) ∙ sym f))
          (λ (ne : j ≡ capacity → ⊥).
          let none : list_of chains j ≡ [] = ap (λ ls. get_or ls j []) lists ∙ get_or-set_other empties capacity j (range_with_len 0 capacity) [] ne ∙ get_or-replicate (capacity + 1) j [] [] (omega arith) in
          absurd (false≢true (ap (is_in p) (sym none) ∙ i)))
          (cases_eq j capacity);
    }

-- ---- as a caller sees the slots

module _ (f : Inside) (seen : Slots) {room : ℕ} (view : ◌≡◌ {A = Slots} (record { slots = slots_of f.capacity f.chains f.keys.items; reserved = room }) seen)
    (kept : IsKeyed f.capacity f.chains f.keys.items (slots_of f.capacity f.chains f.keys.items)) (p : ℕ) (below : p < length seen.slots) where
  keyed_seen : IsKeyed f.capacity f.chains f.keys.items seen.slots
  keyed_seen = at_view f.capacity f.chains f.keys.items seen.slots (ap (λ (v : Slots). v.slots) view) kept

  pub somewhere_seen : list_any (is_in p) f.chains.lists ≡ true
  somewhere_seen = slot_somewhere f.capacity f.chains f.keys.items seen.slots p keyed_seen (omega (arith, keyed_seen.slotted))

  pub slot_seen : (slot : Option ℕ) (chains' : Lists) (keys' : List ℕ) → chains'.slot_count ≡ f.chains.slot_count → chains'.lists ≡ moved p (chain_of f.capacity slot) f.chains.lists
      → length keys' ≡ length f.keys.items → (p < length f.keys.items → (k : ℕ) → slot ≡ Some k → get_or keys' p 0 ≡ k) → ((q : ℕ) → (q ≡ p → ⊥) → get_or keys' q 0 ≡ get_or f.keys.items q 0)
      → IsKeyed f.capacity chains' keys' (set seen.slots p slot)
  slot_seen slot chains' keys' slot_count lists size key others =
      slot_set f.capacity f.chains f.keys.items seen.slots p slot chains' keys' keyed_seen (omega (arith, keyed_seen.slotted)) slot_count lists size (key (omega (arith, keyed_seen))) others
