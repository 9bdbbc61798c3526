-- The places of the promises, used in turn round a ring, and the lists of the buckets.
use Rattle.std.proofs.Common.{◌≡◌, ℕ, zero, suc, ◌+◌, ◌-◌, ◌%◌, ◌*◌, ◌<◌, ◌≤◌, true, false, not, List, [], ◌∷◌, ◌++◌, length, get_or, map, drop, refl, sym, ap, subst, ◌∙◌, arith, eqb, ◌⊎◌, inl, inr, ⊎_elim, append_assoc}
use Rattle.std.specs.List.{filter, list_any, range_with_len}
use Rattle.std.proofs.Math.ListN.{set}
use Rattle.std.proofs.lemmas.Bool.{cases_Bool, cases_eq, cond-false, cond-true, eq-eqb, false_from_ne_true, false≢true, ne_eqb, not_from_true}
use Rattle.std.proofs.lemmas.List.{append-nil, get_or-map, get_or-set_other, get_or-set_same, length-append, length-map, length-set, map-append}
use Rattle.std.proofs.lemmas.List.Elements.{filter-append}
use Rattle.std.proofs.lemmas.List.FromFn.{length-range_with_len}
use Rattle.tesla_base.specs.Members.{Distinct, is_in, without}
use Rattle.tesla_base.specs.declared.names.Name.{Name}
use Rattle.tesla_base.proofs.Filtered.{filter-filter, filter_on, in_filter, in_filter_from, map_on}
use Rattle.tesla_base.proofs.Members.{apart_joined, differs, in_here, in_joined, in_there, list_with, range_in, somewhere, without_none}
use Rattle.tesla_links.specs.Lists.{Lists, list_of}
use Rattle.tesla_early.specs.Learnt.{last_of}
use Rattle.tesla_early.specs.Ring.{IsRing, bucket_of, count_after, is_in_bucket, kept_at, kept_in, no_slot, order_of, index_after, room_made, slot_at}
use Rattle.tesla_early.specs.Stands.{Kept}
use Rattle.tesla_early.specs.declared.promises.Slot.{Slot}

-- ---- buckets

pub bucket_is : (buckets : ℕ) (name : Name) → bucket_of buckets name ≡ (name.interval * 61 + name.number) % buckets
unfolding bucket_of
bucket_is buckets name = refl

pub bucket_within : (buckets : ℕ) (name : Name) → 1 ≤ buckets → bucket_of buckets name < buckets
unfolding bucket_of
bucket_within buckets name some = omega arith

-- ---- numbers of a range

-- a number below a range isn't in it
range_before : (a n x : ℕ) → x < a → is_in x (range_with_len a n) ≡ false
range_before a n x below =
    ⊎_elim (λ (i : is_in x (range_with_len a n) ≡ true). absurd (omega (arith, (range_in a n x i).0)))
    (λ (none : is_in x (range_with_len a n) ≡ false). none)
    (cases_Bool (is_in x (range_with_len a n)))

-- and one past it neither
range_behind : (a n x : ℕ) → a + n ≤ x → is_in x (range_with_len a n) ≡ false
range_behind a n x past =
    ⊎_elim (λ (i : is_in x (range_with_len a n) ≡ true). absurd (omega (arith, (range_in a n x i).1)))
    (λ (none : is_in x (range_with_len a n) ≡ false). none)
    (cases_Bool (is_in x (range_with_len a n)))

-- the numbers of a range differ
distinct_range : (a n : ℕ) → Distinct (range_with_len a n)
distinct_range a zero = tt
distinct_range a (suc n) = (range_before (a + 1) n a (omega arith), distinct_range (a + 1) n)

-- distinct numbers before others
distinct_joined : (xs ys : List ℕ) → Distinct xs → Distinct ys → ((p : ℕ) → is_in p xs ≡ true → is_in p ys ≡ false) → Distinct (xs ++ ys)
distinct_joined [] ys d e other = e
distinct_joined (x ∷ xs) ys d e other = (
  apart_joined x xs ys d.0 (other x (in_here x xs)),
  distinct_joined xs ys d.1 e (λ p i. other p (in_there x p xs i)),
)

-- a range with one number more
range_more : (a n : ℕ) → range_with_len a (n + 1) ≡ range_with_len a n ++ (a + n) ∷ []
range_more a zero = ap (λ (m : ℕ). m ∷ []) (let same : a ≡ a + 0 = omega arith in same)
range_more a (suc n) =
    let count : suc n + 1 ≡ suc (n + 1) = omega arith in
    let last : (a + 1) + n ≡ a + suc n = omega arith in
    ap (range_with_len a) count ∙ ap (λ xs. a ∷ xs) (range_more (a + 1) n ∙ ap (λ m. range_with_len (a + 1) n ++ m ∷ []) last)

-- a range that isn't empty begins with its first number
range_first : (a n : ℕ) → 1 ≤ n → range_with_len a n ≡ a ∷ range_with_len (a + 1) (n - 1)
range_first a zero some = absurd (omega arith)
range_first a (suc n) some = ap (λ (m : ℕ). a ∷ range_with_len (a + 1) m) (let same : n ≡ suc n - 1 = omega arith in same)

-- ---- the places in their order

-- those from one on, so many, and those before the next
abbrev turn : ℕ → ℕ → ℕ → List ℕ
turn from count next = range_with_len from count ++ range_with_len 0 next

turn_distinct : (from count next : ℕ) → next ≤ from → Distinct (turn from count next)
turn_distinct from count next order =
    distinct_joined (range_with_len from count) (range_with_len 0 next) (distinct_range from count) (distinct_range 0 next)
    (λ p i. range_behind 0 next p (omega (arith, (range_in from count p i).0)))

pub order_distinct : (count next : ℕ) → Distinct (order_of count next)
order_distinct count next = turn_distinct next (count - next) next (omega arith)

-- each is below the bound
pub order_within : (most count next : ℕ) (buckets : Lists) (slots : List Slot) → IsRing most count next buckets slots → (p : ℕ) → is_in p (order_of count next) ≡ true → p < most
order_within most count next buckets slots r p i =
    let few : count ≤ most = ⊎_elim (λ (a : count ≡ next). omega (arith, r.within)) (λ (b : count ≡ most). omega arith) r.taken in
    ⊎_elim (λ (a : is_in p (range_with_len next (count - next)) ≡ true). omega (arith, (range_in next (count - next) p a), few, r.within))
    (λ (b : is_in p (range_with_len 0 next) ≡ true). omega (arith, (range_in 0 next p b).1, r.within))
    (in_joined p (range_with_len next (count - next)) (range_with_len 0 next) i)

-- and so is each of a list
pub list_within : (most count next : ℕ) (buckets : Lists) (slots : List Slot) → IsRing most count next buckets slots → (b : ℕ) → b < most → (p : ℕ) → is_in p (list_of buckets b) ≡ true → p < length slots
list_within most count next buckets slots r b below p i =
    let there = in_filter (is_in_bucket most slots b) p (order_of count next) (ap (is_in p) (sym (r.listed b below)) ∙ i) in
    omega (arith, order_within most count next buckets slots r p there.0, r.long)

-- the places with the next one behind them, round the ring
turned : (most count next : ℕ) → next < most → (count ≡ next) ⊎ (count + 1 ≡ most) → turn (next + 1) (count - next) next ++ next ∷ [] ≡ turn (index_after most next) (count + 1 - index_after most next) (index_after most next)
turned most count next within cases =
    let low = range_with_len (next + 1) (count - next) in
    let more : turn (next + 1) (count - next) next ++ next ∷ [] ≡ turn (next + 1) (count - next) (next + 1) =
    append_assoc low (range_with_len 0 next) (next ∷ []) ∙ ap (λ (xs : List ℕ). low ++ xs) (sym (range_more 0 next ∙ ap (λ (m : ℕ). range_with_len 0 next ++ m ∷ []) (let zero_less : 0 + next ≡ next = omega arith in zero_less))) in
    more
    ∙ ⊎_elim
    (λ (last : next + 1 ≡ most).
    let none : count - next ≡ 0 = ⊎_elim (λ (a : count ≡ next). omega arith) (λ (b : count + 1 ≡ most). omega arith) cases in
    let all : next + 1 ≡ count + 1 = ⊎_elim (λ (a : count ≡ next). omega arith) (λ (b : count + 1 ≡ most). omega arith) cases in
    ap (λ (n : ℕ). range_with_len (next + 1) n ++ range_with_len 0 (next + 1)) none ∙ ap (range_with_len 0) all
    ∙ sym (append-nil (range_with_len 0 (count + 1)))
    ∙ ap (λ (n : ℕ). range_with_len 0 n ++ []) (let whole : count + 1 ≡ count + 1 - 0 = omega arith in whole)
    ∙ ap (λ (n : ℕ). turn n (count + 1 - n) n) (sym (cond-true (eqb (next + 1) most) 0 (next + 1) (eq-eqb (next + 1) most last))))
    (λ (other : next + 1 ≡ most → ⊥).
    let less : count - next ≡ count + 1 - (next + 1) = omega arith in
    ap (λ (n : ℕ). turn (next + 1) n (next + 1)) less
    ∙ ap (λ (n : ℕ). turn n (count + 1 - n) n) (sym (cond-false (eqb (next + 1) most) 0 (next + 1) (ne_eqb (next + 1) most other))))
    (cases_eq (next + 1) most)

-- the place behind one below a bound is below it
after_within : (most next : ℕ) → next < most → index_after most next < most
after_within most next within =
    ⊎_elim
    (λ (last : next + 1 ≡ most). subst (λ n. n < most) (sym (cond-true (eqb (next + 1) most) 0 (next + 1) (eq-eqb (next + 1) most last))) (omega arith))
    (λ (other : next + 1 ≡ most → ⊥). subst (λ n. n < most) (sym (cond-false (eqb (next + 1) most) 0 (next + 1) (ne_eqb (next + 1) most other))) (omega arith))
    (cases_eq (next + 1) most)

-- ---- room for one promise more

-- the places but the next one
abbrev pub others_of : ℕ → ℕ → List ℕ
others_of count next = turn (next + 1) (count - next - 1) next

-- the next one isn't one of them
pub next_absent : (count next : ℕ) → is_in next (others_of count next) ≡ false
next_absent count next =
    apart_joined next (range_with_len (next + 1) (count - next - 1)) (range_with_len 0 next) (range_before (next + 1) (count - next - 1) next (omega arith)) (range_behind 0 next next (omega arith))

-- where all are taken, the next one is the first
first_next : (count next : ℕ) → next < count → order_of count next ≡ next ∷ others_of count next
first_next count next within = ap (λ xs. xs ++ range_with_len 0 next) (range_first next (count - next) (omega arith))

-- where they aren't, it's none of them
none_next : (count next : ℕ) → count ≡ next → order_of count next ≡ others_of count next
none_next count next same =
    let none : count - next ≡ 0 = omega arith in
    let fewer : count - next - 1 ≡ 0 = omega arith in
    ap (λ n. range_with_len next n ++ range_with_len 0 next) none ∙ ap (λ n. range_with_len (next + 1) n ++ range_with_len 0 next) (sym fewer)

-- the next one stands in the list of its bucket where all are taken
pub oldest_there : (most count next : ℕ) (buckets : Lists) (slots : List Slot) → IsRing most count next buckets slots → count ≡ most → list_any (is_in next) buckets.lists ≡ true
oldest_there most count next buckets slots r full =
    let b = bucket_of most (slot_at slots next).promise.name in
    let below : b < most = bucket_within most (slot_at slots next).promise.name r.some in
    let there : is_in next (order_of count next) ≡ true = ap (is_in next) (first_next count next (omega (arith, r.within))) ∙ in_here next (others_of count next) in
    somewhere next buckets.lists b (ap (is_in next) (r.listed b below) ∙ in_filter_from (is_in_bucket most slots b) next (order_of count next) there (eq-eqb b b refl))

-- there is room for the next place: it's in no list, and the lists have the others
pub record HasRoom (most count next : ℕ) (slots : List Slot) (lists : List (List ℕ)) : Type 0 where
  pub length_is : length lists ≡ most
  pub listed : (b : ℕ) → b < most → get_or lists b [] ≡ filter (is_in_bucket most slots b) (others_of count next)
  pub last : (new : Kept) → map (kept_at slots) (others_of count next) ++ new ∷ [] ≡ last_of most (map (kept_at slots) (order_of count next) ++ new ∷ [])
  pub more : others_of count next ++ next ∷ [] ≡ order_of (count_after most count) (index_after most next)
  pub taken : (count_after most count ≡ index_after most next) ⊎ (count_after most count ≡ most)

-- where a place is left
room_left : (most count next : ℕ) (buckets : Lists) (slots : List Slot) → IsRing most count next buckets slots → (count ≡ most → ⊥) → HasRoom most count next slots buckets.lists
room_left most count next buckets slots r other =
    let same : count ≡ next = ⊎_elim (λ (a : count ≡ next). a) (λ (b : count ≡ most). absurd (other b)) r.taken in
    let in_order = none_next count next same in
    let grown : count_after most count ≡ count + 1 = cond-false (eqb count most) most (count + 1) (ne_eqb count most other) in
    let number : count - next - 1 ≡ count - next = omega arith in
    record {
      length_is = r.lists;
      listed = λ b below. r.listed b below ∙ ap (filter (is_in_bucket most slots b)) in_order;
      last = λ new.
          let xs = map (kept_at slots) (order_of count next) in
          let size : length (order_of count next) ≡ next = ap length in_order ∙ ap (λ n. length (range_with_len (next + 1) n ++ range_with_len 0 next)) (let fewer : count - next - 1 ≡ 0 = omega arith in fewer) ∙ length-range_with_len 0 next in
          let few : length (xs ++ new ∷ []) - most ≡ 0 = omega (arith, length-append xs (new ∷ []), length-map (order_of count next) (kept_at slots), size, r.within) in
          ap (λ ps. map (kept_at slots) ps ++ new ∷ []) (sym in_order) ∙ sym (ap (λ n. drop n (xs ++ new ∷ [])) few);
      more = ap (λ n. turn (next + 1) n next ++ next ∷ []) number ∙ turned most count next r.within (inl same)
          ∙ ap (λ n. order_of n (index_after most next)) (sym grown);
      taken = ⊎_elim
          (λ (last : next + 1 ≡ most). inr (grown ∙ (let all : count + 1 ≡ most = omega arith in all)))
          (λ (more : next + 1 ≡ most → ⊥). inl (grown ∙ ap (λ n. n + 1) same ∙ sym (cond-false (eqb (next + 1) most) 0 (next + 1) (ne_eqb (next + 1) most more))))
          (cases_eq (next + 1) most);
    }

-- where each is taken, and the next one was taken out of its list
room_after : (most count next : ℕ) (buckets : Lists) (slots : List Slot) → IsRing most count next buckets slots → count ≡ most → HasRoom most count next slots (map (without next) buckets.lists)
room_after most count next buckets slots r full =
    let in_order = first_next count next (omega (arith, r.within)) in
    let others = others_of count next in
    let absent = next_absent count next in
    let kept : count_after most count ≡ most = cond-true (eqb count most) most (count + 1) (eq-eqb count most full) in
    let left : without next (order_of count next) ≡ others =
    ap (without next) in_order
    ∙ cond-false (not (eqb next next)) (next ∷ without next others) (without next others) (not_from_true (eqb next next) (eq-eqb next next refl))
    ∙ without_none next others absent in
    let number : count - next - 1 ≡ (most - 1) - next = omega arith in
    let whole : (most - 1) + 1 ≡ most = omega (arith, r.some) in
    record {
      length_is = length-map buckets.lists (without next) ∙ r.lists;
      listed = λ b below.
          let own = is_in_bucket most slots b in
          get_or-map (without next) buckets.lists b [] [] (omega (arith, r.lists)) ∙ ap (without next) (r.listed b below)
          ∙ filter-filter (λ p. not (eqb p next)) own (order_of count next) ∙ ap (filter own) left;
      last = λ new.
          let xs = map (kept_at slots) others in
          let size : length others ≡ most - 1 = length-append (range_with_len (next + 1) (count - next - 1)) (range_with_len 0 next) ∙ omega (arith, length-range_with_len (next + 1) (count - next - 1), length-range_with_len 0 next, r.within) in
          let one : length (kept_at slots next ∷ xs ++ new ∷ []) - most ≡ 1 = omega (arith, length-append xs (new ∷ []), length-map others (kept_at slots), size, r.some) in
          sym (ap (λ ps. last_of most (map (kept_at slots) ps ++ new ∷ [])) in_order ∙ ap (λ n. drop n (kept_at slots next ∷ xs ++ new ∷ [])) one);
      more = ap (λ n. turn (next + 1) n next ++ next ∷ []) number ∙ turned most (most - 1) next r.within (inr whole)
          ∙ ap (λ n. order_of n (index_after most next)) (whole ∙ sym kept);
      taken = inr kept;
    }

pub has_room : (most count next : ℕ) (buckets : Lists) (slots : List Slot) → IsRing most count next buckets slots → HasRoom most count next slots (room_made most count next buckets.lists)
has_room most count next buckets slots r =
    let gone = map (without next) buckets.lists in
    ⊎_elim
    (λ (full : count ≡ most). subst (HasRoom most count next slots) (sym (cond-true (eqb count most) gone buckets.lists (eq-eqb count most full))) (room_after most count next buckets slots r full))
    (λ (other : count ≡ most → ⊥). subst (HasRoom most count next slots) (sym (cond-false (eqb count most) gone buckets.lists (ne_eqb count most other))) (room_left most count next buckets slots r other))
    (cases_eq count most)

-- the next one is in no list
pub next_nowhere : (most count next : ℕ) (slots : List Slot) (lists : List (List ℕ)) → HasRoom most count next slots lists → list_any (is_in next) lists ≡ false
next_nowhere most count next slots lists h =
    false_from_ne_true (list_any (is_in next) lists) (λ some.
    let at = list_with next lists some in
    let there = in_filter (is_in_bucket most slots at.0) next (others_of count next) (ap (is_in next) (sym (h.listed at.0 (omega (arith, at.1, h.length_is)))) ∙ at.2) in
    false≢true (sym (next_absent count next) ∙ there.0))

-- ---- one promise more

-- a slot at the next place leaves the others
slot_other : (slots : List Slot) (count next : ℕ) (slot : Slot) (p : ℕ) → is_in p (others_of count next) ≡ true → slot_at (set slots next slot) p ≡ slot_at slots p
slot_other slots count next slot p there =
    get_or-set_other slots next p slot no_slot (λ same. differs p next (others_of count next) there (next_absent count next) (sym same))

module _ (most count next : ℕ) (buckets after : Lists) (lists : List (List ℕ)) (slots : List Slot) (slot : Slot) (r : IsRing most count next buckets slots) (h : HasRoom most count next slots lists)
    (same : after.slot_count ≡ buckets.slot_count) (put : after.lists ≡ set lists (bucket_of most slot.promise.name) (get_or lists (bucket_of most slot.promise.name) [] ++ next ∷ [])) where
  abbrev changed : List Slot
  changed = set slots next slot

  abbrev own_bucket : ℕ
  own_bucket = bucket_of most slot.promise.name

  slot_here : slot_at changed next ≡ slot
  slot_here = get_or-set_same slots next slot no_slot (omega (arith, r.within, r.long))

  -- the list of a bucket has the others, and the next one where it's its own bucket
  others_listed : (b : ℕ) → b < most → get_or lists b [] ≡ filter (is_in_bucket most changed b) (others_of count next)
  others_listed b below =
      h.listed b below
      ∙ filter_on (is_in_bucket most slots b) (is_in_bucket most changed b) (others_of count next)
      (λ p there. ap (λ (s : Slot). eqb (bucket_of most s.promise.name) b) (sym (slot_other slots count next slot p there)))

  in_own : (b : ℕ) → is_in_bucket most changed b next ≡ eqb own_bucket b
  in_own b = ap (λ (s : Slot). eqb (bucket_of most s.promise.name) b) slot_here

  put_listed : (b : ℕ) → b < most → list_of after b ≡ filter (is_in_bucket most changed b) (others_of count next ++ next ∷ [])
  put_listed b below =
      let test = is_in_bucket most changed b in
      let split = filter-append test (others_of count next) (next ∷ []) in
      ⊎_elim
      (λ (own : own_bucket ≡ b).
      ap (λ ls. get_or ls b []) put
      ∙ ap (λ n. get_or (set lists own_bucket (get_or lists own_bucket [] ++ next ∷ [])) n []) (sym own)
      ∙ get_or-set_same lists own_bucket (get_or lists own_bucket [] ++ next ∷ []) [] (omega (arith, h.length_is, own))
      ∙ ap (λ n. get_or lists n [] ++ next ∷ []) own
      ∙ ap (λ xs. xs ++ next ∷ []) (others_listed b below)
      ∙ ap (λ xs. filter test (others_of count next) ++ xs) (sym (cond-true (test next) (next ∷ []) [] (in_own b ∙ eq-eqb own_bucket b own)))
      ∙ sym split)
      (λ (other : own_bucket ≡ b → ⊥).
      ap (λ ls. get_or ls b []) put
      ∙ get_or-set_other lists own_bucket b (get_or lists own_bucket [] ++ next ∷ []) [] (λ e. other (sym e))
      ∙ others_listed b below
      ∙ sym (append-nil (filter test (others_of count next)))
      ∙ ap (λ xs. filter test (others_of count next) ++ xs) (sym (cond-false (test next) (next ∷ []) [] (in_own b ∙ ne_eqb own_bucket b other)))
      ∙ sym split)
      (cases_eq own_bucket b)

  pub ring_put : IsRing most (count_after most count) (index_after most next) after changed
  ring_put = record {
    some = r.some;
    few = r.few;
    within = after_within most next r.within;
    taken = h.taken;
    slot_count = same ∙ r.slot_count;
    lists = ap length put ∙ length-set lists own_bucket (get_or lists own_bucket [] ++ next ∷ []) ∙ h.length_is;
    long = length-set slots next slot ∙ r.long;
    listed = λ b below. put_listed b below ∙ ap (filter (is_in_bucket most changed b)) h.more;
  }

  pub kept_put : map (kept_at changed) (order_of (count_after most count) (index_after most next)) ≡ last_of most (map (kept_at slots) (order_of count next) ++ kept_in slot ∷ [])
  kept_put =
      let others = others_of count next in
      ap (map (kept_at changed)) (sym h.more) ∙ map-append (kept_at changed) others (next ∷ [])
      ∙ ap (λ ks. ks ++ kept_at changed next ∷ []) (map_on (kept_at changed) (kept_at slots) others (λ p there. ap kept_in (slot_other slots count next slot p there)))
      ∙ ap (λ s. map (kept_at slots) others ++ kept_in s ∷ []) slot_here
      ∙ h.last (kept_in slot)
