-- The offers of keys, one after another.
use Rattle.std.proofs.Common.{◌≡◌, ℕ, zero, suc, ◌-◌, ◌<◌, Bool, true, false, cond, not, ◌&&◌, List, [], ◌∷◌, length, get_or, filter, Option, Some, None, refl, sym, ap, subst, ◌∙◌, inl, inr, arith}
use Rattle.std.specs.Prelude.{find, nat_lt, bytes_eq}
use Rattle.std.proofs.lemmas.Bool.{ne_eqb, cases_Bool}
use Rattle.std.proofs.lemmas.Bool.Decides.{nat_tests}
use Rattle.std.proofs.lemmas.List.Elements.{All-nil, All-cons}
use Rattle.tesla_frame.specs.declared.row.KeyRow.{KeyRow}
use Rattle.tesla_keys.specs.declared.offer.Offer.TheVariants.{Old, Good, Bad}
use Rattle.tesla_keys.specs.Offers.{offer_of, IsGood}
use Rattle.tesla_keys.specs.Tip.{Tip}
use Rattle.tesla_prf.specs.Keys.{walk}
use Rattle.tesla_fitting.specs.Rows.{leads_to}
use Rattle.tesla_walks.specs.Offered.{AreGood}
use Rattle.tesla_walks.specs.Tips.{fails, is_newer, no_tip, tip_at}

-- within a list the default doesn't matter
pub any_default : {A : Type 0} (xs : List A) (i : ℕ) (d e : A) → i < length xs → get_or xs i d ≡ get_or xs i e
any_default [] i d e h = absurd (omega arith)
any_default (x ∷ xs) zero d e h = refl
any_default (x ∷ xs) (suc i) d e h = any_default xs i d e (omega arith)

-- ---- keys that may be taken

first_passes : {A : Type 0} (t : Bool) (x : A) (o : Option A) → cond t (Some x) o ≡ None → (t ≡ false) × (o ≡ None)
first_passes true x o e = absurd (cc)
first_passes false x o e = (refl, e)

good_where : (tip : Tip) (row : KeyRow) → nat_lt tip.index row.index ≡ true → leads_to row tip.index tip.key ≡ true → IsGood (offer_of tip row.index row.key)
good_where tip row newer leads =
    let above : tip.index < row.index = grind (arith, nat_tests) in
    let gap = row.index - tip.index in
    let some = ne_eqb gap 0 (λ e. omega (arith, e, above)) in
    let answer : offer_of tip row.index row.key ≡ Good gap =
    ap (λ b. cond b Old (cond (bytes_eq (walk row.key gap).0 tip.key.0) (Good gap) (Bad (walk row.key gap)))) some
    ∙ ap (λ b. cond b (Good gap) (Bad (walk row.key gap))) leads in
    subst IsGood (sym answer) tt

passes_where : (newer leads : Bool) → newer ≡ true → (newer && not leads) ≡ false → leads ≡ true
passes_where true true n e = refl
passes_where true false n e = absurd (cc)
passes_where false leads n e = absurd (cc)

-- where no key fails, each newer one may be taken
pub all_good : (tips : List Tip) (rows : List KeyRow) → find (fails tips) rows ≡ None → AreGood tips (filter (is_newer tips) rows)
all_good tips [] none = All-nil (λ row. IsGood (offer_of (tip_at tips row.chain.0) row.index row.key))
all_good tips (row ∷ rows) none =
    let parts = first_passes (fails tips row) row (find (fails tips) rows) none in
    let rest : AreGood tips (filter (is_newer tips) rows) = all_good tips rows parts.1 in
    elim (cases_Bool (is_newer tips row)) [
      | inl newer ↦
          let leads = passes_where (is_newer tips row) (leads_to row (tip_at tips row.chain.0).index (tip_at tips row.chain.0).key) newer parts.0 in
          let here : IsGood (offer_of (tip_at tips row.chain.0) row.index row.key) = good_where (tip_at tips row.chain.0) row newer leads in
          subst (λ b. AreGood tips (cond b (row ∷ filter (is_newer tips) rows) (filter (is_newer tips) rows))) (sym newer)
          (All-cons (λ r. IsGood (offer_of (tip_at tips r.chain.0) r.index r.key)) row (filter (is_newer tips) rows) here rest)
      | inr older ↦
          subst (λ b. AreGood tips (cond b (row ∷ filter (is_newer tips) rows) (filter (is_newer tips) rows))) (sym older) rest
    ]

-- ---- the newest keys

-- the newest key that stands at a chain's place
pub tip_found : (tips : List Tip) (place chain : ℕ) (tip : Tip) → tip ≡ get_or tips place tip → place ≡ chain → chain < length tips → tip ≡ tip_at tips chain
tip_found tips place chain tip is at inside = is ∙ ap (λ n. get_or tips n tip) at ∙ any_default tips chain tip no_tip inside
