-- The intervals that new keys are the first of their chains to reach.
use Rattle.std.proofs.Common.{◌≡◌, ℕ, ◌+◌, ◌<◌, ◌≤◌, Bool, true, false, ◌&&◌, ◌||◌, List, [], ◌∷◌, length, get_or, take, refl, sym, ap, subst, ◌⊎◌, inl, inr, ◌∙◌, arith}
use Rattle.std.specs.Prelude.{nat_lt, nat_le, min, max}
use Rattle.std.specs.List.{list_any}
use Rattle.std.proofs.lemmas.Bool.{cases_lt, or_from, or_left, or_right}
use Rattle.std.proofs.lemmas.Bool.Decides.{nat_tests}
use Rattle.std.proofs.lemmas.List.{get_or-map, length-map, take_more}
use Rattle.std.proofs.lemmas.List.Folds.{list_any-append}
use Rattle.tesla_frame.specs.declared.row.KeyRow.{KeyRow}
use Rattle.tesla_walks.specs.ReachedIntervals.{is_first, is_reached}
use Rattle.tesla_walks.specs.Walking.{Walking, row_of, rows_of}

-- ---- along the walks

first_reaches : (newest interval index : ℕ) → newest < interval → interval ≤ index → (nat_lt newest interval && nat_le interval index) ≡ true
first_reaches newest interval index above reaches = grind (arith, nat_tests)

isnt_first : (newest interval index : ℕ) → (index < interval) ⊎ (interval ≤ newest) → (nat_lt newest interval && nat_le interval index) ≡ false
isnt_first newest interval index (inl past) = grind (arith, nat_tests)
isnt_first newest interval index (inr below) = grind (arith, nat_tests)

or_none : (b : Bool) → (b || false) ≡ b
or_none true = refl
or_none false = refl

any_more : {A : Type 0} (p : A → Bool) (xs : List A) (i : ℕ) (d : A) → i < length xs → list_any p (take (i + 1) xs) ≡ (list_any p (take i xs) || p (get_or xs i d))
any_more p xs i d h =
    ap (list_any p) (take_more xs i d h) ∙ list_any-append p (take i xs) (get_or xs i d ∷ [])
    ∙ ap (λ b. list_any p (take i xs) || b) (or_none (p (get_or xs i d)))

-- the highest interval so far above one, up to another, that these new keys are the first to reach, or that one
pub record Reaching (newest : ℕ → ℕ) (rows : List KeyRow) (low high highest : ℕ) : Type 0 where
  pub least : low ≤ highest
  pub met : low < highest → (highest ≤ high) × (is_reached newest rows highest ≡ true)
  pub none : (n : ℕ) → highest < n → n ≤ high → is_reached newest rows n ≡ false

module _ (newest : ℕ → ℕ) (walks : List Walking) (i : ℕ) (d : Walking) (row : KeyRow) (inside : i < length walks) (is : row ≡ (get_or walks i d).row) (low high highest : ℕ) (so_far : Reaching newest (take i (rows_of walks)) low high highest) where
  one_more : (n : ℕ) → is_reached newest (take (i + 1) (rows_of walks)) n ≡ (is_reached newest (take i (rows_of walks)) n || is_first newest n row)
  one_more n =
      any_more (is_first newest n) (rows_of walks) i d.row (omega (arith, length-map walks row_of, inside))
      ∙ ap (λ (r : KeyRow). is_reached newest (take i (rows_of walks)) n || is_first newest n r) (get_or-map row_of walks i d d.row inside ∙ sym is)

  none_more : (n : ℕ) → highest < n → n ≤ high → is_first newest n row ≡ false → is_reached newest (take (i + 1) (rows_of walks)) n ≡ false
  none_more n above below fails =
      one_more n ∙ or_from (is_reached newest (take i (rows_of walks)) n) (is_first newest n row) (so_far.none n above below) fails

  met_more : low < highest → (highest ≤ high) × (is_reached newest (take (i + 1) (rows_of walks)) highest ≡ true)
  met_more above =
      let it = so_far.met above in
      (it.0, one_more highest ∙ or_left (is_reached newest (take i (rows_of walks)) highest) (is_first newest highest row) it.1)

  -- the key of this walk is the first to reach an interval up to this one
  pub reaching_more : (reached after : ℕ) → reached ≡ min row.index high → newest row.chain.0 < reached → after ≡ max highest reached → Reaching newest (take (i + 1) (rows_of walks)) low high after
  reaching_more reached after at above e =
      let least = so_far.least in
      record {
        least = omega arith;
        met = λ h. elim (cases_lt highest reached) [
          | inl higher ↦
              let this : after ≡ reached = omega arith in (
                omega arith,
                ap (is_reached newest (take (i + 1) (rows_of walks))) this ∙ one_more reached
                    ∙ or_right (is_reached newest (take i (rows_of walks)) reached) (is_first newest reached row) (first_reaches (newest row.chain.0) reached row.index above (omega arith)),
              )
          | inr lower ↦
              let this : after ≡ highest = omega arith in
              subst (λ (n : ℕ). (n ≤ high) × (is_reached newest (take (i + 1) (rows_of walks)) n ≡ true)) (sym this) (met_more (omega arith))
        ];
        none = λ n h k. none_more n (omega arith) k (isnt_first (newest row.chain.0) n row.index (inl (omega arith)));
      }

  -- or none
  pub reaching_same : min row.index high ≤ newest row.chain.0 → Reaching newest (take (i + 1) (rows_of walks)) low high highest
  reaching_same below = record {
    least = so_far.least;
    met = met_more;
    none = λ n h k. none_more n h k (elim (cases_lt row.index n) [ inl past ↦ isnt_first (newest row.chain.0) n row.index (inl past) | inr upto ↦ isnt_first (newest row.chain.0) n row.index (inr (omega arith)) ]);
  }
