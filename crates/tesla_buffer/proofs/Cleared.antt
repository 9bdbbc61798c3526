-- One packet after the other is gone, the one that came first before the others.
use Rattle.std.proofs.Common.{◌≡◌, ℕ, ◌+◌, ◌≤◌, true, false, cond, not, List, [], ◌∷◌, length, map, Some, None, refl, sym, ap, ◌∙◌, arith}
use Rattle.std.specs.Prelude.{count_by, find}
use Rattle.std.specs.List.{filter}
use Rattle.std.proofs.lemmas.Bool.{cond-false, cond-true, eq-eqb, ne_eqb, or_left}
use Rattle.std.proofs.lemmas.List.Sums.{sum_by-cons}
use Rattle.std.proofs.lemmas.Option.{none-some, same_Some}
use Rattle.tesla_base.specs.declared.names.Place.{Place}
use Rattle.tesla_base.proofs.Filtered.{filter_shorter}
use Rattle.tesla_base.specs.Members.{Distinct, is_in}
use Rattle.tesla_base.proofs.Members.{apart}
use Rattle.tesla_buffer.specs.Held.{Held, first_slot, is_at, is_live, is_untaken}
use Rattle.tesla_buffer.specs.declared.item.Item.{Item}

-- the first packet is at the place that is told
told_first : (h : Held) (hs : List Held) (p : Place) → Some p ≡ first_slot (h ∷ hs) → is_at p.0 h ≡ true
told_first h hs p e = eq-eqb h.place p.0 (sym (ap (λ (q : Place). q.0) (same_Some p (record { 0 = h.place }) e)))

pub first_there : (held : List Held) (p : Place) → Some p ≡ first_slot held → is_live p.0 held ≡ true
first_there [] p e = absurd (none-some p (sym e))
first_there (h ∷ hs) p e = or_left (is_at p.0 h) (is_live p.0 hs) (told_first h hs p e)

-- without it there is at least one fewer
pub first_gone : (held : List Held) (p : Place) → Some p ≡ first_slot held → length (filter (λ h. not (is_at p.0 h)) held) + 1 ≤ length held
first_gone [] p e = absurd (none-some p (sym e))
first_gone (h ∷ hs) p e =
    let rest = filter (λ (x : Held). not (is_at p.0 x)) hs in
    let left : filter (λ (x : Held). not (is_at p.0 x)) (h ∷ hs) ≡ rest = cond-false (not (is_at p.0 h)) (h ∷ rest) rest (ap not (told_first h hs p e)) in
    omega (arith, ap length left, filter_shorter (λ (x : Held). not (is_at p.0 x)) hs)

-- as many packets at other places are not at this one
apart_kept : (p : ℕ) (hs : List Held) → is_in p (map (λ (h : Held). h.place) hs) ≡ false → filter (λ (h : Held). not (is_at p h)) hs ≡ hs
apart_kept p [] none = refl
apart_kept p (h ∷ hs) none =
    let parts = apart h.place p (map (λ (x : Held). x.place) hs) none in
    cond-true (not (is_at p h)) (h ∷ filter (λ (x : Held). not (is_at p x)) hs) (filter (λ (x : Held). not (is_at p x)) hs) (ap not (ne_eqb h.place p parts.0))
    ∙ ap (λ (xs : List Held). h ∷ xs) (apart_kept p hs parts.1)

found_first : (h : Held) (hs : List Held) (p : ℕ) (item : Item) → is_at p h ≡ true → find (is_at p) (h ∷ hs) ≡ Some (record { place = p; item = item }) → h.item ≡ item
found_first h hs p item at found =
    let same : h ≡ record { place = p; item = item } = same_Some h (record { place = p; item = item }) (sym (cond-true (is_at p h) (Some h) (find (is_at p) hs) at) ∙ found) in
    ap (λ (x : Held). x.item) same

-- how many weren't taken of the first and of those without it
pub untaken_first : (held : List Held) (p : Place) (item : Item) → Some p ≡ first_slot held → Distinct (map (λ (h : Held). h.place) held) → find (is_at p.0) held ≡ Some (record { place = p.0; item = item })
    → cond (not item.taken) 1 0 + count_by is_untaken (filter (λ (h : Held). not (is_at p.0 h)) held) ≡ count_by is_untaken held
untaken_first [] p item e apart found = absurd (none-some p (sym e))
untaken_first (h ∷ hs) p item e apart found =
    let at : is_at p.0 h ≡ true = told_first h hs p e in
    let own : h.item ≡ item = found_first h hs p.0 item at found in
    let place : h.place ≡ p.0 = ap (λ (q : Place). q.0) (same_Some (record { 0 = h.place }) p (sym e)) in
    let rest : filter (λ (x : Held). not (is_at p.0 x)) (h ∷ hs) ≡ hs =
    cond-false (not (is_at p.0 h)) (h ∷ filter (λ (x : Held). not (is_at p.0 x)) hs) (filter (λ (x : Held). not (is_at p.0 x)) hs) (ap not at)
    ∙ apart_kept p.0 hs (ap (λ (q : ℕ). is_in q (map (λ (x : Held). x.place) hs)) (sym place) ∙ apart.0) in
    ap (λ (xs : List Held). cond (not item.taken) 1 0 + count_by is_untaken xs) rest
    ∙ ap (λ (i : Item). cond (not i.taken) 1 0 + count_by is_untaken hs) (sym own)
    ∙ sym (sum_by-cons (λ (x : Held). cond (is_untaken x) 1 0) h hs)

-- where there is no first one, none is held
pub none_first : (held : List Held) → None ≡ first_slot held → held ≡ []
none_first [] e = refl
none_first (h ∷ hs) e = absurd (none-some (record { 0 = h.place }) e)

-- nor where they are no more than none
pub none_left : (held : List Held) → length held ≤ 0 → held ≡ []
none_left [] e = refl
none_left (h ∷ hs) e = absurd (omega arith)
