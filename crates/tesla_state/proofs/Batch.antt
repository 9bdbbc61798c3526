-- A batch of proved packets in order of arrival: each stands in a slot of its own.
use Rattle.std.proofs.Common.{◌≡◌, ℕ, ◌<◌, Bool, true, false, ◌&&◌, ◌||◌, List, [], ◌∷◌, map, refl, sym, ap, ◌∙◌, arith, ◌==◌}
use Rattle.std.specs.Prelude.{not, All}
use Rattle.std.specs.List.{list_any, list_all}
use Rattle.std.specs.List.Sorted.{IsPermutation}
use Rattle.std.proofs.lemmas.Bool.{and_parts, or_left, or_from, both_ways, eqb-true, eq-eqb, ne_eqb, false_from_ne_true}
use Rattle.std.proofs.lemmas.List.Elements.{All-head, All-tail}
use Rattle.std.proofs.lemmas.List.Sorted.{All-permutation}
use Rattle.std.proofs.lemmas.List.Sums.{AllPass-from_list_all, list_all-from_AllPass}
use Rattle.tesla_base.specs.Members.{is_in, Distinct}
use Rattle.tesla_walks.specs.declared.ordering.Proved.{Proved}
use Rattle.tesla_walks.specs.declared.release.Release.{Release}
use Rattle.tesla_state.specs.Gathering as gathering
use Rattle.tesla_walks.specs.Proved.{RiseBy, release_in}
use Rattle.tesla_walks.specs.Proved as proofs
use Rattle.tesla_walks.specs.Holding.{Holding}
use Rattle.tesla_state.specs.Stored.{Placed, slot_of, holding_at, order_of, stands_at, is_proved_by, AreProved, slot_proved}
use Rattle.tesla_state.proofs.Stored.{not_both}

above_all : (n : ℕ) (xs : List Placed) → All (λ (y : Holding). n < y.order) (map holding_at xs) → is_in n (map order_of xs) ≡ false
above_all n [] h = refl
above_all n (x ∷ xs) h =
    let here : n < x.holding.order = All-head (λ (y : Holding). n < y.order) x.holding (map holding_at xs) h in
    or_from (x.holding.order == n) (is_in n (map order_of xs)) (ne_eqb x.holding.order n (λ e. omega arith)) (above_all n xs (All-tail (λ (y : Holding). n < y.order) x.holding (map holding_at xs) h))

-- packets whose numbers rise have different ones
pub orders_differ : (held : List Placed) → RiseBy gathering.order_of (map holding_at held) → Distinct (map order_of held)
orders_differ [] h = tt
orders_differ (x ∷ xs) h = (above_all x.holding.order xs h.0, orders_differ xs h.1)

abbrev pub number_of : Proved → ℕ
number_of q = q.release.place

above_numbers : (n : ℕ) (qs : List Proved) → All (λ (r : Release). n < r.place) (map release_in qs) → is_in n (map number_of qs) ≡ false
above_numbers n [] h = refl
above_numbers n (q ∷ qs) h =
    let here : n < q.release.place = All-head (λ (r : Release). n < r.place) q.release (map release_in qs) h in
    or_from (q.release.place == n) (is_in n (map number_of qs)) (ne_eqb q.release.place n (λ e. omega arith)) (above_numbers n qs (All-tail (λ (r : Release). n < r.place) q.release (map release_in qs) h))

pub numbers_differ : (qs : List Proved) → RiseBy proofs.arrival_number (map release_in qs) → Distinct (map number_of qs)
numbers_differ [] h = tt
numbers_differ (q ∷ qs) h = (above_numbers q.release.place qs h.0, numbers_differ qs h.1)

abbrev ours : Proved → Placed → Bool
ours q x = not x.holding.released && (x.holding.order == q.release.place && (x.holding.name.interval == q.release.name.interval && x.holding.name.number == q.release.name.number))

order_is : (q : Proved) (x : Placed) → ours q x ≡ true → x.holding.order ≡ q.release.place
order_is q x h =
    eqb-true x.holding.order q.release.place (and_parts (x.holding.order == q.release.place) (x.holding.name.interval == q.release.name.interval && x.holding.name.number == q.release.name.number) (and_parts (not x.holding.released) (x.holding.order == q.release.place && (x.holding.name.interval == q.release.name.interval && x.holding.name.number == q.release.name.number)) h).1).0

-- two that are proved in one slot have one number
one_number : (q r : Proved) (held : List Placed) → Distinct (map slot_of held) → list_any (is_proved_by q) held ≡ true → list_any (is_proved_by r) held ≡ true → r.place.0 ≡ q.place.0 → (r.release.place == q.release.place) ≡ false → ⊥
one_number q r held d hq hr same other =
    not_both q.place.0 (ours q) (ours r)
    (λ x a b. both_ways (r.release.place == q.release.place) other (eq-eqb r.release.place q.release.place (sym (order_is r x b) ∙ order_is q x a)))
    held d hq (ap (λ (n : ℕ). list_any (λ x. stands_at n x && ours r x) held) (sym same) ∙ hr)

slot_apart : (q : Proved) (qs : List Proved) (held : List Placed) → Distinct (map slot_of held) → list_any (is_proved_by q) held ≡ true → AreProved held qs → is_in q.release.place (map number_of qs) ≡ false → is_in q.place.0 (map slot_proved qs) ≡ false
slot_apart q [] held d hq h none = refl
slot_apart q (r ∷ rs) held d hq h none =
    let parts = and_parts (list_any (is_proved_by r) held) (list_all (λ k. list_any (is_proved_by k) held) rs) h in
    let first : (r.release.place == q.release.place) ≡ false = false_from_ne_true (r.release.place == q.release.place) (λ e. both_ways (is_in q.release.place (map number_of (r ∷ rs))) none (or_left (r.release.place == q.release.place) (is_in q.release.place (map number_of rs)) e)) in
    let rest : is_in q.release.place (map number_of rs) ≡ false = sym (ap (λ t. t || is_in q.release.place (map number_of rs)) first) ∙ none in
    or_from (r.place.0 == q.place.0) (is_in q.place.0 (map slot_proved rs))
    (false_from_ne_true (r.place.0 == q.place.0) (λ e. one_number q r held d hq parts.0 (eqb-true r.place.0 q.place.0 e) first))
    (slot_apart q rs held d hq parts.1 rest)

pub slots_differ : (qs : List Proved) (held : List Placed) → Distinct (map slot_of held) → AreProved held qs → Distinct (map number_of qs) → Distinct (map slot_proved qs)
slots_differ [] held d h e = tt
slots_differ (q ∷ qs) held d h e =
    let parts = and_parts (list_any (is_proved_by q) held) (list_all (λ k. list_any (is_proved_by k) held) qs) h in
    (slot_apart q qs held d parts.0 parts.1 e.0, slots_differ qs held d parts.1 e.1)

pub proved_permuted : (held : List Placed) (xs ys : List Proved) → IsPermutation xs ys → AreProved held xs → AreProved held ys
proved_permuted held xs ys e h =
    list_all-from_AllPass (λ (p : Proved). list_any (is_proved_by p) held) ys (All-permutation (λ (p : Proved). list_any (is_proved_by p) held ≡ true) xs ys e (AllPass-from_list_all (λ (p : Proved). list_any (is_proved_by p) held) xs h))
