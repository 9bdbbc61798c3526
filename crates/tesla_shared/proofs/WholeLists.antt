-- Calls whose passes are known by their entries, and lists of which a test keeps all that a function tells.
use Rattle.std.proofs.Common.{◌≡◌, ℕ, ◌+◌, ◌<◌, ◌==◌, Bool, true, false, cond, ◌||◌, List, [], ◌∷◌, ◌++◌, length, map, get_or, count_by, refl, sym, ap, ⊎_elim, ◌∙◌, arith}
use Rattle.std.specs.List.{flat_map, filter, list_all, list_any, enumerate_from, Contains}
use Rattle.std.proofs.lemmas.Bool.{and_from, and_parts, or_parts, eqb-true, eq-eqb}
use Rattle.std.proofs.lemmas.List.{get_or-map, length-map}
use Rattle.std.proofs.lemmas.List.Elements.{Contains-append_cases}
use Rattle.std.proofs.lemmas.List.FromFn.{get_or-enumerate_from, length-enumerate_from}
use Rattle.std.proofs.lemmas.List.Sums.{length-filter, sum_by-cons}
use Rattle.tesla_turn.specs.declared.view.Call.{Call}
use Rattle.tesla_turn.specs.History.{entries, calls_by}

-- ---- calls and their passes

module _ {E : Type 0} where
  parted : (p : E → Bool) (own : Bool) (e : E) (es : List E) → list_all p (cond own (e ∷ es) es) ≡ true → (list_all p es ≡ true) × (own ≡ true → p e ≡ true)
  parted p true e es all = let parts = and_parts (p e) (list_all p es) all in (parts.1, λ _. parts.0)
  parted p false e es all = (all, λ own. absurd cc)

  -- what holds of the calls of each pass holds of each call
  pub each_call : (p : ℕ → E → Bool) (h : List (Call E)) → ((k : ℕ) → list_all (p k) (calls_by k h) ≡ true) → list_all (λ (c : Call E). p c.by c.entry) h ≡ true
  each_call p [] all = refl
  each_call p (c ∷ h) all = and_from (p c.by c.entry) (list_all (λ (x : Call E). p x.by x.entry) h)
      ((parted (p c.by) (c.by == c.by) c.entry (calls_by c.by h) (all c.by)).1 (eq-eqb c.by c.by refl))
      (each_call p h (λ k. (parted (p k) (c.by == k) c.entry (calls_by k h) (all k)).0))

  -- where an entry tells its pass, the calls of a pass are the entries that tell it
  pub calls_by_entries : (pass : E → ℕ) (k : ℕ) (h : List (Call E)) → list_all (λ (c : Call E). pass c.entry == c.by) h ≡ true → calls_by k h ≡ filter (λ e. pass e == k) (entries h)
  calls_by_entries pass k [] all = refl
  calls_by_entries pass k (c ∷ h) all =
      let parts = and_parts (pass c.entry == c.by) (list_all (λ (x : Call E). pass x.entry == x.by) h) all in
      let same : pass c.entry ≡ c.by = eqb-true (pass c.entry) c.by parts.0 in
      ap (λ (es : List E). cond (c.by == k) (c.entry ∷ es) es) (calls_by_entries pass k h parts.1)
      ∙ ap (λ (j : ℕ). cond (j == k) (c.entry ∷ filter (λ e. pass e == k) (entries h)) (filter (λ e. pass e == k) (entries h))) (sym same)

  -- what holds of each entry of the calls
  pub all_entries : (p : E → Bool) (h : List (Call E)) → list_all (λ (c : Call E). p c.entry) h ≡ true → list_all p (entries h) ≡ true
  all_entries p [] all = refl
  all_entries p (c ∷ h) all =
      let parts = and_parts (p c.entry) (list_all (λ (x : Call E). p x.entry) h) all in
      and_from (p c.entry) (list_all p (entries h)) parts.0 (all_entries p h parts.1)

-- ---- what a test keeps

module _ {A : Type 0} (p : A → Bool) where
  -- a function that gives nothing where the test fails
  pub flat_map-filter : {B : Type 0} (f : A → List B) → ((x : A) → p x ≡ false → f x ≡ []) → (xs : List A) → flat_map f (filter p xs) ≡ flat_map f xs
  flat_map-filter f none [] = refl
  flat_map-filter f none (x ∷ xs) = kept (p x) refl (flat_map-filter f none xs)
    where
      kept : (b : Bool) → p x ≡ b → flat_map f (filter p xs) ≡ flat_map f xs → flat_map f (cond b (x ∷ filter p xs) (filter p xs)) ≡ f x ++ flat_map f xs
      kept true e rest = ap (λ ys. f x ++ ys) rest
      kept false e rest = rest ∙ ap (λ ys. ys ++ flat_map f xs) (sym (none x e))

  -- a further test that fails where the test fails
  pub list_any-filter : (q : A → Bool) → ((x : A) → p x ≡ false → q x ≡ false) → (xs : List A) → list_any q (filter p xs) ≡ list_any q xs
  list_any-filter q none [] = refl
  list_any-filter q none (x ∷ xs) = kept (p x) refl (list_any-filter q none xs)
    where
      kept : (b : Bool) → p x ≡ b → list_any q (filter p xs) ≡ list_any q xs → list_any q (cond b (x ∷ filter p xs) (filter p xs)) ≡ (q x || list_any q xs)
      kept true e rest = ap (λ b. q x || b) rest
      kept false e rest = rest ∙ ap (λ b. b || list_any q xs) (sym (none x e))

  filter-filter : (q : A → Bool) → ((x : A) → p x ≡ false → q x ≡ false) → (xs : List A) → filter q (filter p xs) ≡ filter q xs
  filter-filter q none [] = refl
  filter-filter q none (x ∷ xs) = kept (p x) refl (filter-filter q none xs)
    where
      kept : (b : Bool) → p x ≡ b → filter q (filter p xs) ≡ filter q xs → filter q (cond b (x ∷ filter p xs) (filter p xs)) ≡ cond (q x) (x ∷ filter q xs) (filter q xs)
      kept true e rest = ap (λ ys. cond (q x) (x ∷ ys) ys) rest
      kept false e rest = rest ∙ ap (λ b. cond b (x ∷ filter q xs) (filter q xs)) (sym (none x e))

  pub count_by-filter : (q : A → Bool) → ((x : A) → p x ≡ false → q x ≡ false) → (xs : List A) → count_by q (filter p xs) ≡ count_by q xs
  count_by-filter q none xs = sym (length-filter q (filter p xs)) ∙ ap length (filter-filter q none xs) ∙ length-filter q xs

-- ---- tests and places

module _ {A : Type 0} where
  -- a function that gives nothing of what passes a test, where all pass it
  pub flat_map_none : {B : Type 0} (p : A → Bool) (f : A → List B) → ((x : A) → p x ≡ true → f x ≡ []) → (xs : List A) → list_all p xs ≡ true → flat_map f xs ≡ []
  flat_map_none p f none [] all = refl
  flat_map_none p f none (x ∷ xs) all =
      let parts = and_parts (p x) (list_all p xs) all in
      ap (λ ys. ys ++ flat_map f xs) (none x parts.0) ∙ flat_map_none p f none xs parts.1

  -- a test that each element passes
  pub all_pass : (p : A → Bool) → ((x : A) → p x ≡ true) → (xs : List A) → list_all p xs ≡ true
  all_pass p each [] = refl
  all_pass p each (x ∷ xs) = and_from (p x) (list_all p xs) (each x) (all_pass p each xs)

  -- none passes, so none is counted
  pub count_none : (p : A → Bool) (xs : List A) → list_any p xs ≡ false → count_by p xs ≡ 0
  count_none p [] none = refl
  count_none p (x ∷ xs) none =
      let parts = or_parts (p x) (list_any p xs) none in
      let here : ◌≡◌ {A = ℕ} (cond (p x) 1 0) 0 = ap (λ b. cond b 1 0) parts.0 in
      omega (arith, here, count_none p xs parts.1, sum_by-cons (λ y. cond (p y) 1 0) x xs)

  empty_end : (xs ys : List A) → xs ++ ys ≡ [] → ys ≡ []
  empty_end [] ys e = e
  empty_end (x ∷ xs) ys e = absurd cc

  -- where none but the last may pass, there is nothing behind one that passes
  pub last_alone : (p : A → Bool) (xs ys zs : List A) (z : A) → xs ++ ys ≡ zs ++ z ∷ [] → list_any p zs ≡ false → list_any p xs ≡ true → ys ≡ []
  last_alone p [] ys zs z whole none some = absurd cc
  last_alone p (x ∷ xs) ys [] z whole none some = let rest : xs ++ ys ≡ [] = cc in empty_end xs ys rest
  last_alone p (x ∷ xs) ys (w ∷ zs) z whole none some =
      let rest : xs ++ ys ≡ zs ++ z ∷ [] = cc in
      let first : x ≡ w = cc in
      let parts = or_parts (p w) (list_any p zs) none in
      let later : list_any p xs ≡ true = ap (λ b. b || list_any p xs) (sym (ap p first ∙ parts.0)) ∙ some in
      last_alone p xs ys zs z rest parts.1 later

  -- a list with a function of each number and element
  pub get_or-numbered : {B : Type 0} (f : ℕ → A → B) (xs : List A) (k : ℕ) (d : A) (e : B) → k < length xs → get_or (map (λ (p : ℕ × A). f p.0 p.1) (enumerate_from 0 xs)) k e ≡ f k (get_or xs k d)
  get_or-numbered f xs k d e low =
      get_or-map (λ (p : ℕ × A). f p.0 p.1) (enumerate_from 0 xs) k (0, d) e (omega (arith, length-enumerate_from 0 xs))
      ∙ ap (λ (p : ℕ × A). f p.0 p.1) (get_or-enumerate_from 0 xs k (0, d) low)
      ∙ ap (λ (j : ℕ). f j (get_or xs k d)) (let count : 0 + k ≡ k = omega arith in count)

  pub length-numbered : {B : Type 0} (f : ℕ → A → B) (xs : List A) → length (map (λ (p : ℕ × A). f p.0 p.1) (enumerate_from 0 xs)) ≡ length xs
  length-numbered f xs = length-map (enumerate_from 0 xs) (λ (p : ℕ × A). f p.0 p.1) ∙ length-enumerate_from 0 xs

-- ---- where a function gives a value

-- an element of which the function gives the value, with what is before and behind it
pub record GivenAt {A B : Type 0} (f : A → List B) (xs : List A) (y : B) : Type 0 where
  pub prefix : List A
  pub at : A
  pub back : List A
  pub whole : xs ≡ prefix ++ at ∷ back
  pub gives : Contains (f at) y

pub given_at : {A B : Type 0} (f : A → List B) (xs : List A) (y : B) → Contains (flat_map f xs) y → GivenAt f xs y
given_at f [] y has = absurd (omega (arith, has.1))
given_at f (x ∷ xs) y has = ⊎_elim
    (λ here. record { prefix = []; at = x; back = xs; whole = refl; gives = here })
    (λ later. let next = given_at f xs y later in record { prefix = x ∷ next.prefix; at = next.at; back = next.back; whole = ap (λ ys. x ∷ ys) next.whole; gives = next.gives })
    (Contains-append_cases (f x) (flat_map f xs) y has)
