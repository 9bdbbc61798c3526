-- All places are taken out of the lists of the buckets.
use Rattle.std.proofs.Common.{◌≡◌, ℕ, zero, suc, ◌<◌, ◌≤◌, ◌+◌, ◌-◌, true, false, not, ◌||◌, List, [], ◌∷◌, length, get_or, map, refl, sym, ap, ◌∙◌, arith, eqb, inl, ⊎_elim}
use Rattle.std.specs.List.{filter, list_any, range_with_len}
use Rattle.std.proofs.lemmas.Bool.{cases_Bool, eq-eqb, eqb-true, false≢true}
use Rattle.std.proofs.lemmas.Bool.Decides.{nat_tests}
use Rattle.std.proofs.lemmas.List.{get_or-map, length-map}
use Rattle.tesla_base.specs.Members.{is_in, without}
use Rattle.tesla_base.proofs.Filtered.{in_filter, in_filter_from}
use Rattle.tesla_base.proofs.Members.{in_here, in_joined, in_prefix, in_rest, range_has, range_in, somewhere, without_other}
use Rattle.tesla_links.specs.Lists.{Lists, list_of}
use Rattle.tesla_early.specs.Ring.{IsRing, bucket_of, is_in_bucket, order_of, slot_at, without_below}
use Rattle.tesla_early.specs.declared.promises.Slot.{Slot}
use Rattle.tesla_early.proofs.Ring.{bucket_within}

-- ---- one place after another

-- taking out one place leaves another where it is
there_without : (n p : ℕ) (lists : List (List ℕ)) → (p ≡ n → ⊥) → list_any (is_in p) (map (without n) lists) ≡ list_any (is_in p) lists
there_without n p [] other = refl
there_without n p (xs ∷ lists) other =
    ap (λ b. b || list_any (is_in p) (map (without n) lists)) (without_other n p xs other) ∙ ap (λ b. is_in p xs || b) (there_without n p lists other)

pub there_still : (n p : ℕ) (lists : List (List ℕ)) → n ≤ p → list_any (is_in p) lists ≡ true → list_any (is_in p) (without_below n lists) ≡ true
there_still zero p lists past there = there
there_still (suc n) p lists past there =
    there_without n p (without_below n lists) (λ same. omega (arith, past, same)) ∙ there_still n p lists (omega (arith, past)) there

without_count : (n : ℕ) (lists : List (List ℕ)) → length (without_below n lists) ≡ length lists
without_count zero lists = refl
without_count (suc n) lists = length-map (without_below n lists) (without n) ∙ without_count n lists

-- what is left of a list is at the number or past it, and was there before
left_past : (n b p : ℕ) (lists : List (List ℕ)) → b < length lists → is_in p (get_or (without_below n lists) b []) ≡ true → (n ≤ p) × (is_in p (get_or lists b []) ≡ true)
left_past zero b p lists below there = (omega arith, there)
left_past (suc n) b p lists below there =
    let size = without_count n lists in
    let each = get_or-map (without n) (without_below n lists) b [] [] (omega (arith, size, below)) in
    let kept = in_filter (λ x. not (eqb x n)) p (get_or (without_below n lists) b []) (ap (is_in p) (sym each) ∙ there) in
    let before = left_past n b p lists below kept.0 in
    let past = before.0 in
    let not_it : p ≡ n → ⊥ = λ same. absurd (false≢true (sym (ap not (eq-eqb p n same)) ∙ kept.1)) in
    (grind (arith, past, not_it), before.1)

-- a list in which no number is is empty
none_in : (xs : List ℕ) → ((p : ℕ) → is_in p xs ≡ true → ⊥) → xs ≡ []
none_in [] none = refl
none_in (x ∷ xs) none = absurd (none x (in_here x xs))

-- ---- a ring

module _ (most count next : ℕ) (buckets : Lists) (slots : List Slot) (r : IsRing most count next buckets slots) where
  next_few : next ≤ count
  next_few = let within = r.within in ⊎_elim (λ (a : count ≡ next). omega (arith, a)) (λ (b : count ≡ most). omega (arith, b, within)) r.taken

  -- each place below the count is in a list
  pub each_there : (p : ℕ) → p < count → list_any (is_in p) buckets.lists ≡ true
  each_there p below =
      let b = bucket_of most (slot_at slots p).promise.name in
      let within : b < most = bucket_within most (slot_at slots p).promise.name r.some in
      let few = next_few in
      let ordered : is_in p (order_of count next) ≡ true =
      ⊎_elim
      (λ (low : p < next). in_rest p (range_with_len next (count - next)) (range_with_len 0 next) (range_has 0 next p (omega arith) (omega (arith, low))))
      (λ (high : next ≤ p). in_prefix p (range_with_len next (count - next)) (range_with_len 0 next) (range_has next (count - next) p high (omega (arith, below, few, high))))
      (grind arith) in
      somewhere p buckets.lists b (ap (is_in p) (r.listed b within) ∙ in_filter_from (is_in_bucket most slots b) p (order_of count next) ordered (eq-eqb b b refl))

  in_count : (p : ℕ) → is_in p (order_of count next) ≡ true → p < count
  in_count p there =
      let few = next_few in
      ⊎_elim (λ (a : is_in p (range_with_len next (count - next)) ≡ true). let within = range_in next (count - next) p a in omega (arith, within, few))
      (λ (b : is_in p (range_with_len 0 next) ≡ true). let within = range_in 0 next p b in omega (arith, within, few))
      (in_joined p (range_with_len next (count - next)) (range_with_len 0 next) there)

  -- without those below the count all lists are empty
  none_left : (b : ℕ) → b < most → get_or (without_below count buckets.lists) b [] ≡ []
  none_left b below =
      let size = r.lists in
      none_in (get_or (without_below count buckets.lists) b [])
      (λ p there.
      let left = left_past count b p buckets.lists (omega (arith, below, size)) there in
      let within = in_count p (in_filter (is_in_bucket most slots b) p (order_of count next) (ap (is_in p) (sym (r.listed b below)) ∙ left.1)).0 in
      let past = left.0 in
      absurd (omega (arith, within, past)))

  pub ring_cleared : (after : Lists) → after.slot_count ≡ buckets.slot_count → after.lists ≡ without_below count buckets.lists → IsRing most 0 0 after slots
  ring_cleared after same lists = record {
    some = r.some;
    few = r.few;
    within = let some = r.some in omega (arith, some);
    taken = inl refl;
    slot_count = same ∙ r.slot_count;
    lists = ap length lists ∙ without_count count buckets.lists ∙ r.lists;
    long = r.long;
    listed = λ b below. ap (λ ls. get_or ls b []) lists ∙ none_left b below;
  }
