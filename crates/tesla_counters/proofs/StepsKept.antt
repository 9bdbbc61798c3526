-- Each step keeps the rule of the table.
use Rattle.std.proofs.Common.{◌≡◌, ◌≢◌, ⊎_elim, ℕ, zero, suc, ◌≤◌, List, [], ◌∷◌, get_or, set, sym, refl, ap, ◌∙◌, subst, arith}
use mathlib.Core.Option.{some, some-injective, some-ne-none, none}
use lib.ListN.{get_elem?}
use lib.Seq.{set-get_or}
use Rattle.atomic_table.specs.Table.{State, step, keeps, Allows, Joins, Enters, opening}
use Rattle.atomic_table.proofs.Lists.{at_set, at_longer, at_snoc, set_else}
use Rattle.tesla_counters.specs.declared.view.View.{View}
use Rattle.tesla_counters.specs.Counts.{no_counts, NoneFalls}
use Rattle.tesla_counters.specs.Steps.{Ruled, Mine, first_view, reader_view, both_views, spent_view, entered, stored, looked, told}
use Rattle.tesla_counters.proofs.Falling.{risen, set_within, none_falls}

abbrev St : Type 0
St = State ℕ View

at_start : (vs : List View) (i : ℕ) (w : View) (v : View) → i ≡ 0 → get_elem? vs 0 ≡ some v → get_elem? (set vs i w) 0 ≡ some w
at_start [] i w v z at = absurd (some-ne-none v (sym at))
at_start (x ∷ xs) zero w v z at = refl
at_start (x ∷ xs) (suc i) w v z at = absurd (omega arith)

-- What a seat knows of the words, where it is the first one
knows : (s : St) (r : Ruled s) (id : ℕ) (v : View) → id ≡ 0 → get_elem? s.views id ≡ some v → v.exact ≡ s.words
knows s r id v z at = let same : r.first ≡ v = some-injective r.first v (sym r.first_at ∙ (ap (get_elem? s.views) (sym z) ∙ at)) in ap (λ (u : View). u.exact) (sym same) ∙ r.exact

-- A seat has a new view, with the words as they are or risen
moved : (s : St) (r : Ruled s) (id : ℕ) (v w : View) (ws : List ℕ) → get_elem? s.views id ≡ some v → NoneFalls s.words ws → (id ≡ 0 → w.exact ≡ ws) → (id ≢ 0 → ws ≡ s.words) → NoneFalls w.below ws → Ruled record { words = ws; homes = s.homes; views = set s.views id w }
moved s r zero v w ws at rise exact same below = record {
  first = w;
  first_at = at_start s.views 0 w r.first refl r.first_at;
  exact = exact refl;
  below = λ j d there. ⊎_elim (λ (t : (j ≡ 0) × (w ≡ d)). subst (λ (x : View). NoneFalls x.below ws) t.1 below)
      (λ (t : (j ≢ 0) × (get_elem? s.views j ≡ some d)). none_falls d.below s.words ws (r.below j d t.1) rise) (at_set s.views 0 j w d there);
}
moved s r (suc id) v w ws at rise exact same below = record {
  first = r.first;
  first_at = set_else s.views (suc id) 0 w (λ e. omega arith) ∙ r.first_at;
  exact = r.exact ∙ sym (same (λ e. omega arith));
  below = λ j d there. ⊎_elim (λ (t : (j ≡ suc id) × (w ≡ d)). subst (λ (x : View). NoneFalls x.below ws) t.1 below)
      (λ (t : (j ≢ suc id) × (get_elem? s.views j ≡ some d)). none_falls d.below s.words ws (r.below j d t.1) rise) (at_set s.views (suc id) j w d there);
}

pub stores : (slots id : ℕ) (me : Mine) (i n : ℕ) → id ≡ 0 → get_or me.0.exact i 0 ≤ n → Allows Ruled slots id me i (λ _. n) (λ _. stored (step slots i n 0 none) me n)
stores slots id me i n z rises s r deep at _ = let v : View = me.0 in let w : View = record { exact = set v.exact i n; below = v.below } in let e : v.exact ≡ s.words = knows s r id v z at in
    let more : NoneFalls s.words (set s.words i n) = risen s.words i n (subst (λ (xs : List ℕ). get_or xs i 0 ≤ n) e rises) in (
      w,
      keeps,
      tt,
      moved s r id v w (set s.words i n) at more (λ _. ap (λ (xs : List ℕ). set xs i n) e) (λ other. absurd (other z)) (none_falls v.below s.words (set s.words i n) (r.below id v at) more),
      refl,
    )

-- the words stay
unmoved : (s : St) (r : Ruled s) (id : ℕ) (v : View) (i : ℕ) (below : List ℕ) → get_elem? s.views id ≡ some v → NoneFalls below s.words
    → Ruled record { words = set s.words i (get_or s.words i 0); homes = s.homes; views = set s.views id (record { exact = v.exact; below = below }) }
unmoved s r id v i below at fits = let e = set-get_or s.words i 0 in let w : View = record { exact = v.exact; below = below } in
    subst (λ (ws : List ℕ). Ruled record { words = ws; homes = s.homes; views = set s.views id w }) (sym e)
    (moved s r id v w s.words at (λ k. omega arith) (λ z. knows s r id v z at) (λ _. refl) fits)

pub looks : (slots id : ℕ) (me : Mine) (i : ℕ) → Allows Ruled slots id me i (λ n. n) (looked (step slots i 0 0 none) me)
looks slots id me i s r deep at _ = let v : View = me.0 in let n : ℕ = get_or s.words i 0 in let below : List ℕ = set v.below i n in (
  record { exact = v.exact; below = below },
  keeps,
  tt,
  unmoved s r id v i below at (set_within v.below (λ k. get_or s.words k 0) i n (r.below id v at) (omega arith)),
  (refl, r.below id v at i),
)

pub tells : (slots id : ℕ) (me : Mine) → id ≡ 0 → Allows Ruled slots id me 0 (λ n. n) (told (step slots 0 0 0 none) me)
tells slots id me z s r deep at _ = let v : View = me.0 in (
  v,
  keeps,
  tt,
  unmoved s r id v 0 v.below at (r.below id v at),
  (refl, subst (λ (ws : List ℕ). NoneFalls v.below ws) (sym (knows s r id v z at)) (r.below id v at)),
)

pub joins : (id : ℕ) (v : View) (other : ℕ) (w : View) → id ≡ 0 → Joins Ruled id v other w (both_views v w) spent_view
joins id v other w z s r at apart there = let both : View = both_views v w in let was : get_elem? s.views other ≡ some w = sym (set_else s.views id other both apart) ∙ there in
    let mid : Ruled record { words = s.words; homes = s.homes; views = set s.views id both } = moved s r id v both s.words at (λ k. omega arith) (λ e. knows s r id v e at) (λ _. refl) (r.below other w was) in
    moved record { words = s.words; homes = s.homes; views = set s.views id both } mid other w spent_view s.words there (λ k. omega arith) (λ e. absurd (apart (e ∙ sym z))) (λ _. refl) (λ k. omega arith)

zeros : (n k : ℕ) → get_or (no_counts n) k 0 ≡ 0
zeros zero k = refl
zeros (suc n) zero = refl
zeros (suc n) (suc k) = zeros n k

pub enters : (count slots : ℕ) (me : Mine) → Enters Ruled slots 0 (λ n w. entered count (step slots 0 0 0 none) me n (w, []))
enters count slots me s r deep _ = let w : View = reader_view (no_counts count) in (
  w,
  record {
    first = r.first;
    first_at = at_longer s.views (w ∷ []) 0 r.first r.first_at;
    exact = r.exact;
    below = λ j d there. ⊎_elim (r.below j d) (λ (e : w ≡ d). subst (λ (x : View). NoneFalls x.below s.words) e (λ k. let e = zeros count k in omega arith)) (at_snoc s.views w d j there);
  },
  refl,
)

pub starts : (n : ℕ) → Ruled (opening (no_counts n) [] (first_view n))
starts n = record {
  first = first_view n;
  first_at = refl;
  exact = refl;
  below = λ j d there. ⊎_elim (λ (at : get_elem? [] j ≡ some d). absurd (some-ne-none d (sym at))) (λ (e : first_view n ≡ d). subst (λ (x : View). NoneFalls x.below (no_counts n)) e (λ k. omega arith)) (at_snoc [] (first_view n) d j there);
}
