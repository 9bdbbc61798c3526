-- Over the rows of keys alone: a key that leads to the newest one of its chain leads to all that were new before.
use Rattle.std.proofs.Common.{◌≡◌, ℕ, ◌+◌, ◌-◌, ◌<◌, ◌≤◌, Bool, true, false, cond, ◌&&◌, ◌||◌, List, [], ◌∷◌, ◌++◌, refl, sym, ap, subst, ◌∙◌, arith, bytes_eq}
use Rattle.std.specs.Prelude.{not, nat_lt, nat_le, filter, fold}
use Rattle.std.specs.List.{list_all}
use Rattle.std.specs.Cmp.{both_ways}
use Rattle.std.proofs.lemmas.Bool.{and_parts, and_from, leb-true, le-leb, lt-ltb}
use Rattle.std.proofs.lemmas.List.{append-nil}
use Rattle.std.proofs.lemmas.List.Elements.{filter-append}
use Rattle.std.proofs.lemmas.Slice.Eq.{bytes_eq-Decides}
use Rattle.tesla_base.specs.declared.names.Key.{Key}
use Rattle.tesla_base.proofs.Lists.{list_all_both, list_all_weaker}
use Rattle.tesla_base.proofs.Filtered.{filtered_pass}
use Rattle.tesla_frame.specs.declared.row.KeyRow.{KeyRow}
use Rattle.tesla_keys.specs.Tip.{Tip}
use Rattle.tesla_prf.specs.Keys.{walk}
use Rattle.tesla_prf.proofs.Walks.{walk_none, walk_on}
use Rattle.tesla_fitting.specs.Rows.{is_of, leads_to}
use Rattle.tesla_walks.specs.Tips.{raised}

-- a row's key, as a newest one
abbrev pub tip_at : KeyRow → Tip
tip_at row = record { index = row.index; key = row.key }

-- the newest key isn't below the other, and walks to it
abbrev pub reaches : Tip → ℕ → Key → Bool
reaches tip index key = nat_le index tip.index && bytes_eq (walk tip.key (tip.index - index)).0 key.0

-- the newest key of a chain reaches the first one and each of the chain's among the rows
pub record IsTip (chain : ℕ) (first : Tip) (rows : List KeyRow) (tip : Tip) : Type 0 where
  pub commitment : reaches tip first.index first.key ≡ true
  pub each : list_all (λ other. reaches tip other.index other.key) (filter (is_of chain) rows) ≡ true

-- the key leads to the first one and to each of the chain's among the rows
abbrev pub leads_to_all : ℕ → Tip → List KeyRow → KeyRow → Bool
leads_to_all chain first rows row =
    leads_to row first.index first.key && list_all (λ other. not (is_of chain other) || leads_to row other.index other.key) rows

-- ---- the rows of one chain

-- those of other chains pass
all_own : (chain : ℕ) (p : KeyRow → Bool) (rows : List KeyRow) → list_all (λ other. not (is_of chain other) || p other) rows ≡ list_all p (filter (is_of chain) rows)
all_own chain p [] = refl
all_own chain p (row ∷ rows) = elim (is_of chain row) as (λ b. ((not b || p row) && list_all (λ other. not (is_of chain other) || p other) rows) ≡ list_all p (cond b (row ∷ filter (is_of chain) rows) (filter (is_of chain) rows))) [
  | true ↦ ap (λ b. p row && b) (all_own chain p rows)
  | false ↦ all_own chain p rows
]

-- the only row of the chain is of the chain
pub only_of : (chain : ℕ) (rows : List KeyRow) (row : KeyRow) → filter (is_of chain) rows ≡ row ∷ [] → is_of chain row ≡ true
only_of chain rows row only =
    let passed : list_all (is_of chain) (row ∷ []) ≡ true = subst (λ (xs : List KeyRow). list_all (is_of chain) xs ≡ true) only (filtered_pass (is_of chain) rows) in
    (and_parts (is_of chain row) true passed).0

raised_step : (chain : ℕ) (tip : Tip) (row : KeyRow) (own : List KeyRow) (b : Bool) → is_of chain row ≡ b → fold (raised chain) (raised chain tip row) own ≡ fold (raised chain) tip (cond b (row ∷ own) own)
raised_step chain tip row own true e = refl
raised_step chain tip row own false e = ap (λ b. fold (raised chain) (cond (b && nat_lt tip.index row.index) (tip_at row) tip) own) e

-- rows of other chains don't count
pub raised_own : (chain : ℕ) (tip : Tip) (rows : List KeyRow) → fold (raised chain) tip rows ≡ fold (raised chain) tip (filter (is_of chain) rows)
raised_own chain tip [] = refl
raised_own chain tip (row ∷ rows) = raised_own chain (raised chain tip row) rows ∙ raised_step chain tip row (filter (is_of chain) rows) (is_of chain row) refl

-- a key of the chain that is above becomes the newest
pub raised_to : (chain : ℕ) (tip : Tip) (row : KeyRow) → is_of chain row ≡ true → tip.index < row.index → raised chain tip row ≡ tip_at row
raised_to chain tip row own above =
    ap (λ b. cond (b && nat_lt tip.index row.index) (tip_at row) tip) own ∙ ap (λ b. cond b (tip_at row) tip) (lt-ltb tip.index row.index above)

-- ---- walks

bytes_same : (a b : List ℕ) → bytes_eq a b ≡ true → a ≡ b
bytes_same a b e = (bytes_eq-Decides a b).0 e

same_bytes : (a b : List ℕ) → a ≡ b → bytes_eq a b ≡ true
same_bytes a b e = (bytes_eq-Decides a b).1 e

-- a key that leads to the newest one reaches what that reaches
leads_further : (row : KeyRow) (tip : Tip) (index : ℕ) (key : Key) → tip.index < row.index → leads_to row tip.index tip.key ≡ true → reaches tip index key ≡ true → reaches (tip_at row) index key ≡ true
leads_further row tip index key above leads reached =
    let parts = and_parts (nat_le index tip.index) (bytes_eq (walk tip.key (tip.index - index)).0 key.0) reached in
    let below : index ≤ tip.index = leb-true index tip.index parts.0 in
    let to : walk row.key (row.index - tip.index) ≡ tip.key = ap (λ (bytes : List ℕ). record { 0 = bytes }) (bytes_same (walk row.key (row.index - tip.index)).0 tip.key.0 leads) in
    let sum : row.index - index ≡ row.index - tip.index + (tip.index - index) = omega arith in
    let path : walk row.key (row.index - index) ≡ walk tip.key (tip.index - index) =
    ap (walk row.key) sum ∙ sym (walk_on row.key (row.index - tip.index) (tip.index - index)) ∙ ap (λ (k : Key). walk k (tip.index - index)) to in
    and_from (nat_le index row.index) (leads_to row index key) (le-leb index row.index (omega arith))
    (same_bytes (walk row.key (row.index - index)).0 key.0 (ap (λ (k : Key). k.0) path ∙ bytes_same (walk tip.key (tip.index - index)).0 key.0 parts.1))

-- a key reaches itself
reaches_itself : (tip : Tip) → reaches tip tip.index tip.key ≡ true
reaches_itself tip =
    let none : tip.index - tip.index ≡ 0 = omega arith in
    let here : walk tip.key (tip.index - tip.index) ≡ tip.key = ap (walk tip.key) none ∙ walk_none tip.key in
    and_from (nat_le tip.index tip.index) (bytes_eq (walk tip.key (tip.index - tip.index)).0 tip.key.0) (le-leb tip.index tip.index (omega arith))
    (same_bytes (walk tip.key (tip.index - tip.index)).0 tip.key.0 (ap (λ (k : Key). k.0) here))

-- ---- the newest key

passed_one : (p : Tip → Bool) (tip : Tip) (row : KeyRow) (own above : Bool) → p tip ≡ true → (not own || p (tip_at row)) ≡ true → p (cond (own && above) (tip_at row) tip) ≡ true
passed_one p tip row true true here e = e
passed_one p tip row true false here e = here
passed_one p tip row false above here e = here

-- what passes of the first key and of each of the chain's passes of the newest, which is one of them
passed_on : (chain : ℕ) (p : Tip → Bool) (tip : Tip) (rows : List KeyRow) → p tip ≡ true → list_all (λ other. not (is_of chain other) || p (tip_at other)) rows ≡ true → p (fold (raised chain) tip rows) ≡ true
passed_on chain p tip [] here each = here
passed_on chain p tip (row ∷ rows) here each =
    let parts = and_parts (not (is_of chain row) || p (tip_at row)) (list_all (λ other. not (is_of chain other) || p (tip_at other)) rows) each in
    passed_on chain p (raised chain tip row) rows (passed_one p tip row (is_of chain row) (nat_lt tip.index row.index) here parts.0) parts.1

-- the law
pub leads_by_tip : (chain : ℕ) (first : Tip) (rows : List KeyRow) (row : KeyRow) → IsTip chain first rows (fold (raised chain) first rows) → (fold (raised chain) first rows).index < row.index → leads_to_all chain first rows row ≡ leads_to row (fold (raised chain) first rows).index (fold (raised chain) first rows).key
leads_by_tip chain first rows row is above =
    let tip : Tip = fold (raised chain) first rows in
    let to : KeyRow → Bool = λ other. leads_to row other.index other.key in
    both_ways (leads_to_all chain first rows row) (leads_to row tip.index tip.key)
    (λ e. let parts = and_parts (leads_to row first.index first.key) (list_all (λ other. not (is_of chain other) || to other) rows) e in
    passed_on chain (λ t. leads_to row t.index t.key) first rows parts.0 parts.1)
    (λ e. and_from (leads_to row first.index first.key) (list_all (λ other. not (is_of chain other) || to other) rows)
    ((and_parts (nat_le first.index row.index) (leads_to row first.index first.key) (leads_further row tip first.index first.key above e is.commitment)).1)
    (all_own chain to rows ∙ list_all_weaker (λ other. reaches tip other.index other.key) to (filter (is_of chain) rows) (λ other h.
    (and_parts (nat_le other.index row.index) (to other) (leads_further row tip other.index other.key above e h)).1) is.each))

-- no key was new
pub tip_none : (chain : ℕ) (first : Tip) → IsTip chain first [] first
tip_none chain first = record { commitment = reaches_itself first; each = refl }

-- none more of the chain
pub tip_stays : (chain : ℕ) (first tip : Tip) (rows new : List KeyRow) → IsTip chain first rows tip → filter (is_of chain) new ≡ [] → IsTip chain first (rows ++ new) (fold (raised chain) tip new)
tip_stays chain first tip rows new is none =
    let same : fold (raised chain) tip new ≡ tip = raised_own chain tip new ∙ ap (fold (raised chain) tip) none in
    let own : filter (is_of chain) (rows ++ new) ≡ filter (is_of chain) rows = filter-append (is_of chain) rows new ∙ ap (λ xs. filter (is_of chain) rows ++ xs) none ∙ append-nil (filter (is_of chain) rows) in
    subst (λ (t : Tip). IsTip chain first (rows ++ new) t) (sym same)
    (record { commitment = is.commitment; each = ap (list_all (λ other. reaches tip other.index other.key)) own ∙ is.each })

-- one more of the chain, which leads to the newest
pub tip_grows : (chain : ℕ) (first tip : Tip) (rows new : List KeyRow) (row : KeyRow) → IsTip chain first rows tip → filter (is_of chain) new ≡ row ∷ [] → tip.index < row.index → leads_to row tip.index tip.key ≡ true → IsTip chain first (rows ++ new) (fold (raised chain) tip new)
tip_grows chain first tip rows new row is only above leads =
    let same : fold (raised chain) tip new ≡ tip_at row = raised_own chain tip new ∙ ap (fold (raised chain) tip) only ∙ raised_to chain tip row (only_of chain new row only) above in
    let own : filter (is_of chain) (rows ++ new) ≡ filter (is_of chain) rows ++ row ∷ [] = filter-append (is_of chain) rows new ∙ ap (λ xs. filter (is_of chain) rows ++ xs) only in
    let passes : KeyRow → Bool = λ other. reaches (tip_at row) other.index other.key in
    subst (λ (t : Tip). IsTip chain first (rows ++ new) t) (sym same) (record {
      commitment = leads_further row tip first.index first.key above leads is.commitment;
      each =
          ap (list_all passes) own
          ∙ list_all_both passes (filter (is_of chain) rows) (row ∷ [])
          (list_all_weaker (λ other. reaches tip other.index other.key) passes (filter (is_of chain) rows) (λ other h. leads_further row tip other.index other.key above leads h) is.each)
          (and_from (passes row) true (reaches_itself (tip_at row)) refl);
    })
