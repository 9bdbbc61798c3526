-- What is gathered interval by interval, from the highest interval down, has the elements of what is gathered in order of arrival.
use Rattle.std.proofs.Common.{◌≡◌, ℕ, ◌+◌, ◌-◌, ◌<◌, ◌≤◌, Bool, true, false, cond, ◌&&◌, ◌||◌, List, [], ◌∷◌, ◌++◌, length, get_or, filter, flat_map, Option, Some, None, refl, sym, ap, subst, ◌∙◌, ◌⊎◌, inl, inr, arith, append_assoc, zero-add}
use Rattle.std.specs.Prelude.{◌==◌, nat_le, nat_lt, find, slice_get}
use Rattle.std.specs.List.{All, list_any, sum_by}
use Rattle.std.specs.List.Sorted.{IsPermutation}
use Rattle.std.proofs.lemmas.Bool.{cases_Bool, eqb-true, or_parts}
use Rattle.std.proofs.lemmas.Bool.Decides.{nat_tests}
use Rattle.std.proofs.lemmas.List.Sums.{sum_by-cons}
use Rattle.std.proofs.lemmas.List.Elements.{All-cons, All-head, All-nil, All-tail}
use Rattle.std.proofs.lemmas.List.Sorted.{IsPermutation-append_comm, IsPermutation-append_left, IsPermutation-append_right, IsPermutation-refl, IsPermutation-trans}
use Rattle.tesla_frame.specs.declared.row.KeyRow.{KeyRow}
use Rattle.tesla_keys.specs.Tip.{Tip}
use Rattle.tesla_fitting.specs.declared.config.Config.{Config}
use Rattle.tesla_walks.specs.declared.release.Release.{Release}
use Rattle.tesla_fitting.specs.Config.{chains}
use Rattle.tesla_fitting.specs.Rows.{is_of}
use Rattle.tesla_walks.specs.Holding.{Holding}
use Rattle.tesla_state.specs.Steps.{batch_of, in_interval}
use Rattle.tesla_walks.specs.Proved.{is_proof_of, matches, proof_of, proves_on, released_on, RiseBy, arrival_number}
use Rattle.tesla_walks.specs.Tips.{tip_at}
use Rattle.tesla_clock.specs.Safe.{has_chain}
use Rattle.tesla_walks.proofs.Tried.{skips_proof}
use Rattle.tesla_walks.specs.ReachedIntervals.{index_in, is_first, is_reached}
use Rattle.tesla_state.specs.Gathering.{in_turn, order_of}

-- ---- two parts

-- what is put before both parts
permuted : {A : Type 0} (xs ys zs : List A) → ys ≡ zs → IsPermutation xs ys → IsPermutation xs zs
permuted {A = A} xs ys zs e h = subst (λ (l : List A). IsPermutation xs l) e h

-- the front of the second part goes before the first
to_prefix : {A : Type 0} (us fs vs : List A) → IsPermutation (fs ++ (us ++ vs)) (us ++ (fs ++ vs))
to_prefix {A = A} us fs vs =
    let moved : IsPermutation ((fs ++ us) ++ vs) ((us ++ fs) ++ vs) = IsPermutation-append_left vs (fs ++ us) (us ++ fs) (IsPermutation-append_comm fs us) in
    subst (λ (l : List A). IsPermutation l (us ++ (fs ++ vs))) (append_assoc fs us vs) (permuted ((fs ++ us) ++ vs) ((us ++ fs) ++ vs) (us ++ (fs ++ vs)) (append_assoc us fs vs) moved)

module _ {X A : Type 0} (f : X → List A) where
  -- an element that doesn't pass, or of which f gives nothing, may be left out
  pub only_those : (p : X → Bool) → ((x : X) → p x ≡ false → f x ≡ []) → (xs : List X) → flat_map f (filter p xs) ≡ flat_map f xs
  only_those p skip [] = refl
  only_those p skip (x ∷ xs) = elim (cases_Bool (p x)) [
    | inl e ↦ ap (λ b. flat_map f (cond b (x ∷ filter p xs) (filter p xs))) e ∙ ap (λ ys. f x ++ ys) (only_those p skip xs)
    | inr e ↦ ap (λ b. flat_map f (cond b (x ∷ filter p xs) (filter p xs))) e ∙ only_those p skip xs ∙ ap (λ ys. ys ++ flat_map f xs) (sym (skip x e))
  ]

  part_step : (rx px qx : Bool) → (px ≡ true → (rx ≡ true) × (qx ≡ false)) → (qx ≡ true → rx ≡ true) → (rx ≡ true → px ≡ false → qx ≡ true) → (x : X) (rs ps qs : List X)
      → IsPermutation (flat_map f rs) (flat_map f ps ++ flat_map f qs) → IsPermutation (flat_map f (cond rx (x ∷ rs) rs)) (flat_map f (cond px (x ∷ ps) ps) ++ flat_map f (cond qx (x ∷ qs) qs))
  part_step true true true one both other x rs ps qs h = let e : true ≡ false = (one refl).1 in absurd (cc)
  part_step true true false one both other x rs ps qs h =
      permuted (f x ++ flat_map f rs) (f x ++ (flat_map f ps ++ flat_map f qs)) ((f x ++ flat_map f ps) ++ flat_map f qs) (sym (append_assoc (f x) (flat_map f ps) (flat_map f qs)))
      (IsPermutation-append_right (f x) (flat_map f rs) (flat_map f ps ++ flat_map f qs) h)
  part_step true false true one both other x rs ps qs h =
      IsPermutation-trans (f x ++ flat_map f rs) (f x ++ (flat_map f ps ++ flat_map f qs)) (flat_map f ps ++ (f x ++ flat_map f qs))
      (IsPermutation-append_right (f x) (flat_map f rs) (flat_map f ps ++ flat_map f qs) h)
      (to_prefix (flat_map f ps) (f x) (flat_map f qs))
  part_step true false false one both other x rs ps qs h = let e : false ≡ true = other refl refl in absurd (cc)
  part_step false true qx one both other x rs ps qs h = let e : false ≡ true = (one refl).0 in absurd (cc)
  part_step false false true one both other x rs ps qs h = let e : false ≡ true = both refl in absurd (cc)
  part_step false false false one both other x rs ps qs h = h

  -- each element that passes r passes just one of p and q
  pub two_parts : (r p q : X → Bool) → ((x : X) → p x ≡ true → (r x ≡ true) × (q x ≡ false)) → ((x : X) → q x ≡ true → r x ≡ true) → ((x : X) → r x ≡ true → p x ≡ false → q x ≡ true) → (xs : List X)
      → IsPermutation (flat_map f (filter r xs)) (flat_map f (filter p xs) ++ flat_map f (filter q xs))
  two_parts r p q one both other [] = IsPermutation-refl []
  two_parts r p q one both other (x ∷ xs) =
      part_step (r x) (p x) (q x) (one x) (both x) (other x) x (filter r xs) (filter p xs) (filter q xs) (two_parts r p q one both other xs)

  same_step : (b : Bool) (x : X) (ps qs : List X) → flat_map f ps ≡ flat_map f qs → flat_map f (cond b (x ∷ ps) ps) ≡ flat_map f (cond b (x ∷ qs) qs)
  same_step true x ps qs h = ap (λ ys. f x ++ ys) h
  same_step false x ps qs h = h

  skip_step : (b : Bool) (x : X) (ps : List X) → f x ≡ [] → flat_map f (cond b (x ∷ ps) ps) ≡ flat_map f ps
  skip_step true x ps e = ap (λ ys. ys ++ flat_map f ps) e
  skip_step false x ps e = refl

  -- two tests that differ only where f gives nothing
  pub same_given : (p q : X → Bool) → ((x : X) → (p x ≡ q x) ⊎ (f x ≡ [])) → (xs : List X) → flat_map f (filter p xs) ≡ flat_map f (filter q xs)
  same_given p q same [] = refl
  same_given p q same (x ∷ xs) = elim (same x) [
    | inl e ↦ ap (λ b. flat_map f (cond b (x ∷ filter p xs) (filter p xs))) e ∙ same_step (q x) x (filter p xs) (filter q xs) (same_given p q same xs)
    | inr e ↦ skip_step (p x) x (filter p xs) e ∙ same_given p q same xs ∙ sym (skip_step (q x) x (filter q xs) e)
  ]

  -- f gives nothing for those that pass
  pub nothing_given : (p : X → Bool) → ((x : X) → p x ≡ true → f x ≡ []) → (xs : List X) → flat_map f (filter p xs) ≡ []
  nothing_given p none [] = refl
  nothing_given p none (x ∷ xs) = elim (cases_Bool (p x)) [
    | inl e ↦ skip_step (p x) x (filter p xs) (none x e) ∙ nothing_given p none xs
    | inr e ↦ ap (λ b. flat_map f (cond b (x ∷ filter p xs) (filter p xs))) e ∙ nothing_given p none xs
  ]

sum_step : (rx px qx : Bool) (n r p q : ℕ) → (px ≡ true → (rx ≡ true) × (qx ≡ false)) → (qx ≡ true → rx ≡ true) → p + q ≤ r → (cond px n 0 + p) + (cond qx n 0 + q) ≤ cond rx n 0 + r
sum_step true true true n r p q one both h = let e : true ≡ false = (one refl).1 in absurd (cc)
sum_step true true false n r p q one both h = omega arith
sum_step true false true n r p q one both h = omega arith
sum_step true false false n r p q one both h = omega arith
sum_step false true qx n r p q one both h = let e : false ≡ true = (one refl).0 in absurd (cc)
sum_step false false true n r p q one both h = let e : false ≡ true = both refl in absurd (cc)
sum_step false false false n r p q one both h = omega arith

sum_if : {A : Type 0} (number : A → ℕ) (b : Bool) (x : A) (xs : List A) → sum_by number (cond b (x ∷ xs) xs) ≡ cond b (number x) 0 + sum_by number xs
sum_if number true x xs = sum_by-cons number x xs
sum_if number false x xs = sym (zero-add (sum_by number xs))

-- two parts of a list that have no element in common count for no more than a part that has both
pub parts_sum : {A : Type 0} (number : A → ℕ) (r p q : A → Bool) → ((x : A) → p x ≡ true → (r x ≡ true) × (q x ≡ false)) → ((x : A) → q x ≡ true → r x ≡ true) → (xs : List A)
    → sum_by number (filter p xs) + sum_by number (filter q xs) ≤ sum_by number (filter r xs)
parts_sum number r p q one both [] = omega arith
parts_sum number r p q one both (x ∷ xs) =
    let rest = sum_step (r x) (p x) (q x) (number x) (sum_by number (filter r xs)) (sum_by number (filter p xs)) (sum_by number (filter q xs)) (one x) (both x) (parts_sum number r p q one both xs) in
    omega (arith, rest, sum_if number (r x) x (filter r xs), sum_if number (p x) x (filter p xs), sum_if number (q x) x (filter q xs))

-- a list counts for its length where each element counts for one
pub sum_ones : {A : Type 0} (xs : List A) → sum_by (λ x. 1) xs ≡ length xs
sum_ones [] = refl
sum_ones (x ∷ xs) = omega (arith, sum_by-cons (λ y. 1) x xs, sum_ones xs)

-- ---- intervals

-- of an interval above this one
abbrev pub is_past : ℕ → Holding → Bool
is_past most item = nat_lt most item.name.interval

last_past : (interval most number : ℕ) → 0 < interval → interval ≤ most → (number == interval) ≡ true → (nat_lt (interval - 1) number ≡ true) × (nat_lt most number ≡ false)
last_past interval most number some below e = (grind (arith, nat_tests), grind (arith, nat_tests))

still_past : (interval most number : ℕ) → interval ≤ most → nat_lt most number ≡ true → nat_lt (interval - 1) number ≡ true
still_past interval most number below e = grind (arith, nat_tests)

other_past : (interval number : ℕ) → 0 < interval → nat_lt (interval - 1) number ≡ true → (number == interval) ≡ false → nat_lt interval number ≡ true
other_past interval number some e n = grind (arith, nat_tests)

module _ {A : Type 0} (f : Holding → List A) (held : List Holding) (interval : ℕ) (some : 0 < interval) where
  -- what f gives for the packets of an interval, and of those above it
  pub past_parts : IsPermutation (flat_map f (filter (is_past (interval - 1)) held)) (in_turn f held interval ++ flat_map f (filter (is_past interval) held))
  past_parts =
      two_parts f (is_past (interval - 1)) (in_interval interval) (is_past interval)
      (λ item e. last_past interval interval item.name.interval some (omega arith) e)
      (λ item e. still_past interval interval item.name.interval (omega arith) e)
      (λ item e n. other_past interval item.name.interval some e n) held

-- the packets of an interval and those above another, not lower one, count for no more than all of these intervals
pub past_sum : (number : Holding → ℕ) (held : List Holding) (interval most : ℕ) → 0 < interval → interval ≤ most
    → sum_by number (filter (in_interval interval) held) + sum_by number (filter (is_past most) held) ≤ sum_by number (filter (is_past (interval - 1)) held)
past_sum number held interval most some below =
    parts_sum number (is_past (interval - 1)) (in_interval interval) (is_past most)
    (λ item e. last_past interval most item.name.interval some below e)
    (λ item e. still_past interval most item.name.interval below e) held

-- ---- in order of arrival

-- for an element f gives nothing, or one that carries its number
abbrev pub GivesOwn : {X A : Type 0} → (X → ℕ) → (A → ℕ) → (X → List A) → Type 0
GivesOwn {X = X} {A = A} number other f = (x : X) → (f x ≡ []) ⊎ ((y : A) × (f x ≡ y ∷ []) × (other y ≡ number x))

module _ {X A : Type 0} (number : X → ℕ) (other : A → ℕ) (f : X → List A) (own : GivesOwn number other f) where
  all_above : (m : ℕ) (xs : List X) → All (λ x. m < number x) xs → All (λ y. m < other y) (flat_map f xs)
  all_above m [] all = All-nil (λ y. m < other y)
  all_above m (x ∷ xs) all =
      let rest : All (λ y. m < other y) (flat_map f xs) = all_above m xs (All-tail (λ x. m < number x) x xs all) in
      let here : m < number x = All-head (λ x. m < number x) x xs all in
      elim (own x) [
        | inl none ↦ subst (λ ys. All (λ y. m < other y) (ys ++ flat_map f xs)) (sym none) rest
        | inr (y, one, same) ↦
            subst (λ ys. All (λ z. m < other z) (ys ++ flat_map f xs)) (sym one) (All-cons (λ z. m < other z) y (flat_map f xs) (omega (arith, here, same)) rest)
      ]

  -- what f gives along a list whose numbers rise has numbers that rise
  pub gives_rising : (xs : List X) → RiseBy number xs → RiseBy other (flat_map f xs)
  gives_rising [] rise = tt
  gives_rising (x ∷ xs) rise =
      let rest : RiseBy other (flat_map f xs) = gives_rising xs rise.1 in
      let above : All (λ y. number x < other y) (flat_map f xs) = all_above (number x) xs rise.0 in
      elim (own x) [
        | inl none ↦ subst (λ ys. RiseBy other (ys ++ flat_map f xs)) (sym none) rest
        | inr (y, one, same) ↦
            subst (λ ys. RiseBy other (ys ++ flat_map f xs)) (sym one) ((λ k d inside. subst (λ n. n < other (get_or (flat_map f xs) k d)) (sym same) (above k d inside)), rest)
      ]

-- ---- what new keys prove

own_release : (item : Holding) (told : Option ℕ) → (released_on item told ≡ []) ⊎ ((y : Release) × (released_on item told ≡ y ∷ []) × (y.place ≡ item.order))
own_release item None = inl refl
own_release item (Some chain) = inr (record { place = item.order; name = item.name; chain = record { 0 = chain } }, refl, refl)

own_unless : (taken : Bool) (item : Holding) (told : Option ℕ) → (cond taken [] (released_on item told) ≡ []) ⊎ ((y : Release) × (cond taken [] (released_on item told) ≡ y ∷ []) × (y.place ≡ item.order))
own_unless true item told = inl refl
own_unless false item told = own_release item told

-- a packet's release is told its slot
pub gives_own : (cfg : Config) (tips : List Tip) (new : List KeyRow) → GivesOwn order_of arrival_number (proof_of cfg tips new)
gives_own cfg tips new item = own_unless item.released item (find (proves_on cfg tips new item) (chains cfg))

no_chain : (p : ℕ → Bool) → ((c : ℕ) → p c ≡ false) → (xs : List ℕ) → find p xs ≡ None
no_chain p none [] = refl
no_chain p none (x ∷ xs) = ap (λ b. cond b (Some x) (find p xs)) (none x) ∙ no_chain p none xs

module _ (cfg : Config) (tips : List Tip) (item : Holding) (chain : ℕ) (newer : nat_lt (tip_at tips chain).index item.name.interval ≡ true) where
  -- a key proves nothing of an interval that its chain has reached before, or that it doesn't reach
  row_proves_not : (row : KeyRow) → is_first (index_in tips) item.name.interval row ≡ false → is_proof_of cfg item chain row ≡ false
  row_proves_not row unreached =
      elim (cases_Bool (is_of chain row)) [
        | inl own ↦
            let same : row.chain.0 ≡ chain = eqb-true row.chain.0 chain own in
            let far : nat_le item.name.interval row.index ≡ false =
            ap (λ b. b && nat_le item.name.interval row.index) (sym (ap (λ (n : ℕ). nat_lt (tip_at tips n).index item.name.interval) same ∙ newer)) ∙ unreached in
            let tag = matches cfg item chain row (slice_get item.tags chain) in
            ap (λ b. b && nat_le item.name.interval row.index && tag) own ∙ ap (λ b. b && tag) far
        | inr other ↦ skips_proof cfg item chain row other
      ]

  rows_prove_not : (rows : List KeyRow) → is_reached (index_in tips) rows item.name.interval ≡ false → list_any (is_proof_of cfg item chain) rows ≡ false
  rows_prove_not [] unreached = refl
  rows_prove_not (row ∷ rows) unreached =
      let parts = or_parts (is_first (index_in tips) item.name.interval row) (is_reached (index_in tips) rows item.name.interval) unreached in
      ap (λ b. b || list_any (is_proof_of cfg item chain) rows) (row_proves_not row parts.0) ∙ rows_prove_not rows parts.1

proved_not : (safe newer any : Bool) → (newer ≡ true → any ≡ false) → (safe && newer && any) ≡ false
proved_not true true any h = h refl
proved_not true false any h = refl
proved_not false newer any h = refl

nothing_proving : (b : Bool) (item : Holding) (told : Option ℕ) → told ≡ None → cond b [] (released_on item told) ≡ []
nothing_proving true item told e = refl
nothing_proving false item told e = ap (released_on item) e

-- new keys prove nothing of an interval that they aren't the first to reach
pub unreached_unproved : (cfg : Config) (tips : List Tip) (new : List KeyRow) (item : Holding) → is_reached (index_in tips) new item.name.interval ≡ false → proof_of cfg tips new item ≡ []
unreached_unproved cfg tips new item unreached =
    let none : find (proves_on cfg tips new item) (chains cfg) ≡ None =
    no_chain (proves_on cfg tips new item)
    (λ c. proved_not (has_chain item.chains c) (nat_lt (tip_at tips c).index item.name.interval) (list_any (is_proof_of cfg item c) new)
    (λ newer. rows_prove_not cfg tips item c newer new unreached)) (chains cfg) in
    nothing_proving item.released item (find (proves_on cfg tips new item) (chains cfg)) none

-- the slots of the batch rise
pub batch_rises : (cfg : Config) (tips : List Tip) (new : List KeyRow) (held : List Holding) → RiseBy order_of held → RiseBy arrival_number (batch_of cfg tips new held)
batch_rises cfg tips new held rise = gives_rising order_of arrival_number (proof_of cfg tips new) (gives_own cfg tips new) held rise

-- a part of a list counts for no more than the list
pub sum_filter : {A : Type 0} (number : A → ℕ) (p : A → Bool) (xs : List A) → sum_by number (filter p xs) ≤ sum_by number xs
sum_filter number p [] = omega arith
sum_filter number p (x ∷ xs) =
    let rest : sum_by number (filter p xs) ≤ sum_by number xs = sum_filter number p xs in
    let whole = sum_by-cons number x xs in
    let kept = sum_by-cons number x (filter p xs) in
    elim (p x) as (λ b. sum_by number (cond b (x ∷ filter p xs) (filter p xs)) ≤ sum_by number (x ∷ xs)) [ true ↦ omega (arith, rest, whole, kept) | false ↦ omega (arith, rest, whole) ]
