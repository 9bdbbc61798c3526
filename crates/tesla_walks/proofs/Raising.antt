-- Keys that are taken one after another, of chains that rise.
use Rattle.std.proofs.Common.{◌≡◌, ℕ, zero, suc, ◌+◌, ◌-◌, ◌<◌, ◌==◌, Bool, true, false, cond, ◌&&◌, List, [], ◌∷◌, ◌++◌, length, get_or, map, take, refl, sym, ap, subst, ◌∙◌, arith, add-zero}
use Rattle.std.specs.Prelude.{fold, nat_lt, bytes_eq}
use Rattle.std.specs.List.{All, enumerate_from}
use Rattle.std.proofs.Math.ListN.{set}
use Rattle.std.proofs.lemmas.Bool.{eqb-false, eq-eqb, ne_eqb}
use Rattle.std.proofs.lemmas.Bool.Decides.{nat_tests}
use Rattle.std.proofs.lemmas.List.{get_or-map, length-map, take_more}
use Rattle.std.proofs.lemmas.List.Sums.{fold-append}
use Rattle.tesla_base.specs.declared.names.Key.{Key}
use Rattle.tesla_frame.specs.declared.row.KeyRow.{KeyRow}
use Rattle.tesla_frame.specs.Frame.{ChainsRise}
use Rattle.tesla_keys.specs.declared.offer.Offer.TheVariants.{Old, Good, Bad}
use Rattle.tesla_keys.specs.Offers.{offer_of, IsGood}
use Rattle.tesla_keys.specs.Tip.{Tip}
use Rattle.tesla_prf.specs.Keys.{walk}
use Rattle.tesla_fitting.specs.Rows.{is_of}
use Rattle.tesla_walks.specs.Offered.{AreGood}
use Rattle.tesla_walks.specs.Tips.{no_tip, tip_at, tips_after, raised}
use Rattle.tesla_walks.specs.Walking.{Walking, row_of, rows_of}

-- ---- one chain

-- a key of another chain doesn't raise the newest of this one
other_chain : (chain : ℕ) (tip : Tip) (row : KeyRow) → is_of chain row ≡ false → raised chain tip row ≡ tip
other_chain chain tip row e = ap (λ b. cond (b && nat_lt tip.index row.index) (record { index = row.index; key = row.key }) tip) e

-- a newer key of the chain does
own_chain : (chain : ℕ) (tip : Tip) (row : KeyRow) → is_of chain row ≡ true → nat_lt tip.index row.index ≡ true → raised chain tip row ≡ record { index = row.index; key = row.key }
own_chain chain tip row e newer =
    ap (λ b. cond (b && nat_lt tip.index row.index) (record { index = row.index; key = row.key }) tip) e
    ∙ ap (λ b. cond b (record { index = row.index; key = row.key }) tip) newer

pub rises_above : (row : KeyRow) (rows : List KeyRow) → ChainsRise (row ∷ rows) → (k : ℕ) (d : KeyRow) → k < length rows → row.chain.0 < (get_or rows k d).chain.0
rises_above row [] h k d inside = absurd (omega arith)
rises_above row (next ∷ rows) h zero d inside = h.0
rises_above row (next ∷ rows) h (suc k) d inside =
    let rest : next.chain.0 < (get_or rows k d).chain.0 = rises_above next rows h.1 k d (omega arith) in
    omega (arith, h.0, rest)

pub rises_on : (row : KeyRow) (rows : List KeyRow) → ChainsRise (row ∷ rows) → ChainsRise rows
rises_on row [] h = tt
rises_on row (next ∷ rows) h = h.1

-- the keys before the one of a chain are of other chains
untouched : (chain : ℕ) (tip : Tip) (rows : List KeyRow) (i : ℕ) (d : KeyRow) → ChainsRise rows → i < length rows → (get_or rows i d).chain.0 ≡ chain → fold (raised chain) tip (take i rows) ≡ tip
untouched chain tip [] i d rise inside here = absurd (omega arith)
untouched chain tip (row ∷ rows) zero d rise inside here = refl
untouched chain tip (row ∷ rows) (suc i) d rise inside here =
    let below : row.chain.0 < (get_or rows i d).chain.0 = rises_above row rows rise i d (omega arith) in
    ap (λ (t : Tip). fold (raised chain) t (take i rows)) (other_chain chain tip row (ne_eqb row.chain.0 chain (λ e. omega (arith, e, here, below))))
    ∙ untouched chain tip rows i d (rises_on row rows rise) (omega arith) here

-- ---- all chains

-- the newest keys of the chains from a number on
abbrev after_from : ℕ → List Tip → List KeyRow → List Tip
after_from n tips rows = map (λ (p : ℕ × Tip). fold (raised p.0) p.1 rows) (enumerate_from n tips)

after_at : (n : ℕ) (tips : List Tip) (rows : List KeyRow) (k : ℕ) (d e : Tip) → k < length tips → get_or (after_from n tips rows) k d ≡ fold (raised (n + k)) (get_or tips k e) rows
after_at n [] rows k d e h = absurd (omega arith)
after_at n (tip ∷ tips) rows zero d e h = ap (λ c. fold (raised c) tip rows) (sym (add-zero n))
after_at n (tip ∷ tips) rows (suc k) d e h =
    let sum : n + 1 + k ≡ n + suc k = omega arith in
    after_at (n + 1) tips rows k d e (omega arith) ∙ ap (λ c. fold (raised c) (get_or tips k e) rows) sum

one_more : (chain : ℕ) (tip : Tip) (rows : List KeyRow) (row : KeyRow) → fold (raised chain) tip (rows ++ row ∷ []) ≡ raised chain (fold (raised chain) tip rows) row
one_more chain tip rows row = fold-append (raised chain) tip rows (row ∷ [])

after_skip : (n : ℕ) (tips : List Tip) (rows : List KeyRow) (row : KeyRow) → row.chain.0 < n → after_from n tips (rows ++ row ∷ []) ≡ after_from n tips rows
after_skip n [] rows row h = refl
after_skip n (tip ∷ tips) rows row h =
    let other = other_chain n (fold (raised n) tip rows) row (ne_eqb row.chain.0 n (λ e. omega (arith, e, h))) in
    ap (λ (t : Tip). t ∷ after_from (n + 1) tips (rows ++ row ∷ [])) (one_more n tip rows row ∙ other)
    ∙ ap (λ ts. fold (raised n) tip rows ∷ ts) (after_skip (n + 1) tips rows row (omega arith))

after_more : (n : ℕ) (tips : List Tip) (rows : List KeyRow) (row : KeyRow) (k : ℕ) → k < length tips → row.chain.0 ≡ n + k → nat_lt (fold (raised (n + k)) (get_or tips k no_tip) rows).index row.index ≡ true → after_from n tips (rows ++ row ∷ []) ≡ set (after_from n tips rows) k (record { index = row.index; key = row.key })
after_more n [] rows row k h at newer = absurd (omega arith)
after_more n (tip ∷ tips) rows row zero h at newer =
    let chain : row.chain.0 ≡ n = omega (arith, at) in
    let newer_here : nat_lt (fold (raised n) tip rows).index row.index ≡ true = ap (λ c. nat_lt (fold (raised c) tip rows).index row.index) (sym (add-zero n)) ∙ newer in
    let own = own_chain n (fold (raised n) tip rows) row (eq-eqb row.chain.0 n chain) newer_here in
    ap (λ (t : Tip). t ∷ after_from (n + 1) tips (rows ++ row ∷ [])) (one_more n tip rows row ∙ own)
    ∙ ap (λ ts. record { index = row.index; key = row.key } ∷ ts) (after_skip (n + 1) tips rows row (omega (arith, chain)))
after_more n (tip ∷ tips) rows row (suc k) h at newer =
    let sum : n + suc k ≡ n + 1 + k = omega arith in
    let newer_there : nat_lt (fold (raised (n + 1 + k)) (get_or tips k no_tip) rows).index row.index ≡ true = ap (λ c. nat_lt (fold (raised c) (get_or tips k no_tip) rows).index row.index) (sym sum) ∙ newer in
    let other = other_chain n (fold (raised n) tip rows) row (ne_eqb row.chain.0 n (λ e. omega (arith, e, at))) in
    ap (λ (t : Tip). t ∷ after_from (n + 1) tips (rows ++ row ∷ [])) (one_more n tip rows row ∙ other)
    ∙ ap (λ ts. fold (raised n) tip rows ∷ ts) (after_more (n + 1) tips rows row k (omega arith) (omega (arith, at)) newer_there)

-- no key raises none
pub after_none : (n : ℕ) (tips : List Tip) → tips ≡ after_from n tips []
after_none n [] = refl
after_none n (tip ∷ tips) = ap (λ ts. tip ∷ ts) (after_none (n + 1) tips)

-- ---- the key of a walk

-- what holds of all keys of walks holds of the key of one
pub row_has : (P : KeyRow → Type 0) (walks : List Walking) (i : ℕ) (d : Walking) (row : KeyRow) → All P (rows_of walks) → i < length walks → row ≡ (get_or walks i d).row → P row
row_has P walks i d row all inside is =
    let place : i < length (rows_of walks) = omega (arith, length-map walks row_of, inside) in
    subst P (get_or-map row_of walks i d d.row inside ∙ sym is) (all i d.row place)

not_old : (none same : Bool) (gap : ℕ) (walked : Key) → IsGood (cond none Old (cond same (Good gap) (Bad walked))) → none ≡ false
not_old true same gap walked h = absurd h
not_old false same gap walked h = refl

-- a key that may be taken is newer
newer_where : (tip : Tip) (index : ℕ) (key : Key) → IsGood (offer_of tip index key) → nat_lt tip.index index ≡ true
newer_where tip index key good =
    let none = not_old (index - tip.index == 0) (bytes_eq (walk key (index - tip.index)).0 tip.key.0) (index - tip.index) (walk key (index - tip.index)) good in
    let some : index - tip.index ≡ 0 → ⊥ = eqb-false (index - tip.index) 0 none in
    let above : tip.index < index = omega (arith, some) in
    grind (arith, nat_tests)

module _ (tips now : List Tip) (walks : List Walking) (i : ℕ) (d : Walking) (row : KeyRow) (so_far : now ≡ tips_after tips (take i (rows_of walks))) (inside : i < length walks) (is : row ≡ (get_or walks i d).row) (rise : ChainsRise (rows_of walks)) (known : row.chain.0 < length tips) (good : AreGood tips (rows_of walks)) where
  place : i < length (rows_of walks)
  place = omega (arith, length-map walks row_of, inside)

  at : get_or (rows_of walks) i d.row ≡ row
  at = get_or-map row_of walks i d d.row inside ∙ sym is

  own_tip : fold (raised row.chain.0) (tip_at tips row.chain.0) (take i (rows_of walks)) ≡ tip_at tips row.chain.0
  own_tip = untouched row.chain.0 (tip_at tips row.chain.0) (rows_of walks) i d.row rise place (ap (λ (r : KeyRow). r.chain.0) at)

  good_at : IsGood (offer_of (tip_at tips row.chain.0) row.index row.key)
  good_at = row_has (λ (r : KeyRow). IsGood (offer_of (tip_at tips r.chain.0) r.index r.key)) walks i d row good inside is

  -- the newest key of its chain is still the one before
  pub tip_before : (e : Tip) → get_or now row.chain.0 e ≡ tip_at tips row.chain.0
  tip_before e =
      let zeroth : 0 + row.chain.0 ≡ row.chain.0 = omega arith in
      ap (λ ts. get_or ts row.chain.0 e) so_far ∙ after_at 0 tips (take i (rows_of walks)) row.chain.0 e no_tip known
      ∙ ap (λ c. fold (raised c) (tip_at tips row.chain.0) (take i (rows_of walks))) zeroth ∙ own_tip

  -- the key may be taken
  pub may_take : (e : Tip) → IsGood (offer_of (get_or now row.chain.0 e) row.index row.key)
  may_take e = subst (λ (t : Tip). IsGood (offer_of t row.index row.key)) (sym (tip_before e)) good_at

  -- the newest keys once it is taken
  pub taken_more : set now row.chain.0 (record { index = row.index; key = row.key }) ≡ tips_after tips (take (i + 1) (rows_of walks))
  taken_more =
      let zeroth : row.chain.0 ≡ 0 + row.chain.0 = omega arith in
      let newer : nat_lt (fold (raised (0 + row.chain.0)) (get_or tips row.chain.0 no_tip) (take i (rows_of walks))).index row.index ≡ true =
      ap (λ c. nat_lt (fold (raised c) (get_or tips row.chain.0 no_tip) (take i (rows_of walks))).index row.index) (sym zeroth)
      ∙ ap (λ (t : Tip). nat_lt t.index row.index) own_tip ∙ newer_where (tip_at tips row.chain.0) row.index row.key good_at in
      ap (λ ts. set ts row.chain.0 (record { index = row.index; key = row.key })) so_far
      ∙ sym (after_more 0 tips (take i (rows_of walks)) row row.chain.0 known zeroth newer)
      ∙ ap (tips_after tips) (ap (λ (r : KeyRow). take i (rows_of walks) ++ r ∷ []) (sym at) ∙ sym (take_more (rows_of walks) i d.row place))
