-- Each answer to an offered key comes exactly where its cause holds.
use Rattle.std.proofs.Common.{◌≡◌, ℕ, ◌+◌, ◌-◌, ◌<◌, ◌≤◌, ◌==◌, Bool, true, false, cond, List, inl, inr, refl, sym, ap, subst, ◌∙◌, arith, bytes_eq}
use Rattle.std.specs.Prelude.{◌↔◌, ◌≢◌}
use Rattle.std.proofs.lemmas.Bool.{eqb-true, eqb-false, eq-eqb, ne_eqb, cases_Bool, both_ways}
use Rattle.std.proofs.lemmas.Slice.Eq.{bytes_eq-Decides}
use Rattle.tesla_base.specs.declared.names.Key.{Key}
use Rattle.tesla_prf.specs.Keys.{next_of, walk}
use Rattle.tesla_prf.proofs.Walks.{walk_none, walk_more, walk_on}
use Rattle.tesla_keys.specs.declared.offer.Offer.{Offer}
use Rattle.tesla_keys.specs.declared.offer.Offer.TheVariants.{Old, Good, Bad}
use Rattle.tesla_keys.specs.Offers.{offer_of}
use Rattle.tesla_keys.specs.Tip.{Tip}

-- ---- keys

-- keys of the same bytes
pub same_key : (a b : Key) → bytes_eq a.0 b.0 ≡ true → a ≡ b
same_key a b e = ap (λ (bytes : List ℕ). record { 0 = bytes }) ((bytes_eq-Decides a.0 b.0).0 e)

pub key_same : (a b : Key) → a ≡ b → bytes_eq a.0 b.0 ≡ true
key_same a b e = (bytes_eq-Decides a.0 b.0).1 (ap (λ (k : Key). k.0) e)

other_key : (a b : Key) → a ≢ b → bytes_eq a.0 b.0 ≡ false
other_key a b differ = elim (cases_Bool (bytes_eq a.0 b.0)) [ inl e ↦ absurd (differ (same_key a b e)) | inr e ↦ e ]

-- on from the key of the interval before
pub walk_before : (key : Key) (gap : ℕ) → 0 < gap → walk (next_of key) (gap - 1) ≡ walk key gap
walk_before key gap some =
    let one : walk key 1 ≡ next_of key = walk_more key 0 ∙ ap next_of (walk_none key) in
    let sum : 1 + (gap - 1) ≡ gap = omega arith in
    ap (λ (k : Key). walk k (gap - 1)) (sym one) ∙ walk_on key 1 (gap - 1) ∙ ap (walk key) sum

-- ---- answers

is_old : (none same : Bool) (gap : ℕ) (walked : Key) → cond none Old (cond same (Good gap) (Bad walked)) ≡ Old → none ≡ true
is_old true same gap walked e = refl
is_old false true gap walked e = absurd (cc)
is_old false false gap walked e = absurd (cc)

is_good : (none same : Bool) (gap other : ℕ) (walked : Key) → cond none Old (cond same (Good gap) (Bad walked)) ≡ Good other → (none ≡ false) × (same ≡ true) × (gap ≡ other)
is_good true same gap other walked e = absurd (cc)
is_good false true gap other walked e = (refl, refl, cc)
is_good false false gap other walked e = absurd (cc)

is_bad : (none same : Bool) (gap : ℕ) (walked other : Key) → cond none Old (cond same (Good gap) (Bad walked)) ≡ Bad other → (none ≡ false) × (same ≡ false) × (walked ≡ other)
is_bad true same gap walked other e = absurd (cc)
is_bad false true gap walked other e = absurd (cc)
is_bad false false gap walked other e = (refl, refl, cc)

module _ (tip : Tip) (index : ℕ) (key : Key) where
  abbrev gap : ℕ
  gap = index - tip.index

  abbrev reached : Key
  reached = walk key (index - tip.index)

  above : (index - tip.index == 0) ≡ false → tip.index < index
  above e = let no : index - tip.index ≡ 0 → ⊥ = eqb-false (index - tip.index) 0 e in omega (arith, no)

  not_none : tip.index < index → (index - tip.index == 0) ≡ false
  not_none h = ne_eqb (index - tip.index) 0 (λ e. omega (arith, e, h))

  answers_old : (offer_of tip index key ≡ Old) ↔ (index ≤ tip.index)
  answers_old = (
    λ e. let none : index - tip.index ≡ 0 = eqb-true (index - tip.index) 0 (is_old (gap == 0) (bytes_eq reached.0 tip.key.0) gap reached e) in omega (arith, none),
    λ h. ap (λ b. cond b Old (cond (bytes_eq reached.0 tip.key.0) (Good gap) (Bad reached))) (eq-eqb (index - tip.index) 0 (omega arith)),
  )

  answers_good : (distance : ℕ) → (offer_of tip index key ≡ Good distance) ↔ ((tip.index < index) × (distance ≡ index - tip.index) × (walk key distance ≡ tip.key))
  answers_good distance = (
    λ e. let parts = is_good (gap == 0) (bytes_eq reached.0 tip.key.0) gap distance reached e in
        (above parts.0, sym parts.2, ap (walk key) (sym parts.2) ∙ same_key reached tip.key parts.1),
    λ h. ap (λ b. cond b Old (cond (bytes_eq reached.0 tip.key.0) (Good gap) (Bad reached))) (not_none h.0)
        ∙ ap (λ b. cond b (Good gap) (Bad reached)) (key_same reached tip.key (ap (walk key) (sym h.1) ∙ h.2))
        ∙ ap (λ (n : ℕ). Good n) (sym h.1),
  )

  answers_bad : (walked : Key) → (offer_of tip index key ≡ Bad walked) ↔ ((tip.index < index) × (walk key (index - tip.index) ≡ walked) × (walked ≢ tip.key))
  answers_bad walked = (
    λ e. let parts = is_bad (gap == 0) (bytes_eq reached.0 tip.key.0) gap reached walked e in
        (above parts.0, parts.2, λ same. both_ways (bytes_eq reached.0 tip.key.0) parts.1 (key_same reached tip.key (parts.2 ∙ same))),
    λ h. ap (λ b. cond b Old (cond (bytes_eq reached.0 tip.key.0) (Good gap) (Bad reached))) (not_none h.0)
        ∙ ap (λ b. cond b (Good gap) (Bad reached)) (other_key reached tip.key (λ e. h.2 (sym h.1 ∙ e)))
        ∙ ap (λ (k : Key). Bad k) h.1,
  )

-- ---- the answer that is given

module _ (tip : Tip) (index : ℕ) (key : Key) (answer : Offer) (given : answer ≡ offer_of tip index key) where
  pub old_where : (answer ≡ Old) ↔ (index ≤ tip.index)
  old_where = subst (λ (o : Offer). (o ≡ Old) ↔ (index ≤ tip.index)) (sym given) (answers_old tip index key)

  pub good_where : (distance : ℕ) → (answer ≡ Good distance) ↔ ((tip.index < index) × (distance ≡ index - tip.index) × (walk key distance ≡ tip.key))
  good_where distance = subst (λ (o : Offer). (o ≡ Good distance) ↔ ((tip.index < index) × (distance ≡ index - tip.index) × (walk key distance ≡ tip.key))) (sym given) (answers_good tip index key distance)

  pub bad_where : (walked : Key) → (answer ≡ Bad walked) ↔ ((tip.index < index) × (walk key (index - tip.index) ≡ walked) × (walked ≢ tip.key))
  bad_where walked = subst (λ (o : Offer). (o ≡ Bad walked) ↔ ((tip.index < index) × (walk key (index - tip.index) ≡ walked) × (walked ≢ tip.key))) (sym given) (answers_bad tip index key walked)
