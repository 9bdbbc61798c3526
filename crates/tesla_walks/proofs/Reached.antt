-- Walks back from new keys.
use Rattle.std.proofs.Common.{◌≡◌, ℕ, ◌+◌, ◌-◌, ◌<◌, ◌≤◌, Option, None, sym, ap, ◌∙◌, arith}
use Rattle.tesla_base.specs.declared.names.Key.{Key}
use Rattle.tesla_frame.specs.declared.row.KeyRow.{KeyRow}
use Rattle.tesla_keys.specs.declared.offer.Offer.{Offer}
use Rattle.tesla_keys.specs.Offers.{offer_of}
use Rattle.tesla_keys.specs.Tip.{Tip}
use Rattle.tesla_prf.specs.Keys.{next_of, walk}
use Rattle.tesla_prf.proofs.Walks.{walk_none, walk_more, walk_on}
use Rattle.tesla_walks.specs.Walking.{Walking, HasReached}

-- on from the key of the interval before
pub walk_first : (key : Key) (distance : ℕ) → 0 < distance → walk (next_of key) (distance - 1) ≡ walk key distance
walk_first key distance some =
    let one : walk key 1 ≡ next_of key = walk_more key 0 ∙ ap next_of (walk_none key) in
    let sum : 1 + (distance - 1) ≡ distance = omega arith in
    ap (λ (k : Key). walk k (distance - 1)) (sym one) ∙ walk_on key 1 (distance - 1) ∙ ap (walk key) sum

-- a walk begins at its key
pub begins : (row : KeyRow) (key : Key) → key ≡ row.key → HasReached row row.index key None
begins row key same =
    let none : 0 ≡ row.index - row.index = omega arith in
    record { below = omega arith; walked = same ∙ sym (walk_none row.key) ∙ ap (walk row.key) none; made = tt }

-- it goes on from the key that it has reached
pub goes_on : (row : KeyRow) (reached interval : ℕ) (key further : Key) (mac : Option Key) → HasReached row reached key mac → interval ≤ reached → further ≡ walk key (reached - interval) → HasReached row interval further None
goes_on row reached interval key further mac h below walked =
    let sum : row.index - reached + (reached - interval) ≡ row.index - interval = omega (arith, h.below, below) in
    record {
      below = omega (arith, h.below, below);
      walked = walked ∙ ap (λ (k : Key). walk k (reached - interval)) h.walked ∙ walk_on row.key (row.index - reached) (reached - interval) ∙ ap (walk row.key) sum;
      made = tt;
    }

-- the answer to the key that was reached, where that is the new key itself
pub offered : (tip : Tip) (inner outer : Walking) (key : Key) (mac : Option Key) (answer : Offer) → HasReached inner.row inner.reached key mac → inner ≡ outer → outer.reached ≡ outer.row.index → answer ≡ offer_of tip inner.reached key → answer ≡ offer_of tip outer.row.index outer.row.key
offered tip inner outer key mac answer h same here given =
    let at : inner.reached ≡ inner.row.index = ap (λ (w : Walking). w.reached) same ∙ here ∙ sym (ap (λ (w : Walking). w.row.index) same) in
    let none : inner.row.index - inner.reached ≡ 0 = omega (arith, at) in
    let own : key ≡ inner.row.key = h.walked ∙ ap (walk inner.row.key) none ∙ walk_none inner.row.key in
    given ∙ ap (λ (k : Key). offer_of tip inner.reached k) own ∙ ap (λ n. offer_of tip n inner.row.key) at
    ∙ ap (λ (w : Walking). offer_of tip w.row.index w.row.key) same
