-- A batch of proved packets, settled one after the other: what is released, and what stays.
use Rattle.std.proofs.Common.{◌≡◌, ℕ, ◌+◌, Bool, true, false, cond, ◌&&◌, ◌||◌, List, [], ◌∷◌, ◌++◌, length, map, flat_map, drop, get_or, suc, ◌<◌, ◌≤◌, drop-cons, refl, sym, ap, subst, ⊎_elim, ◌∙◌, arith, ◌==◌, append_assoc}
use Rattle.std.specs.Prelude.{not, if◌then◌else◌}
use Rattle.std.specs.List.{list_any, list_all, filter}
use Rattle.std.proofs.Math.Bool.{or-false}
use Rattle.std.proofs.Math.ListN.{drop_of_length-le}
use Rattle.std.proofs.lemmas.Bool.{false≢true, cases_Bool, and_parts, and_from, and_left, or_cases, or_left, or_right, both_ways, eqb-true, ne_eqb, eq-eqb, not-true, not-false, not_from_false, false_from_ne_true}
use Rattle.std.proofs.lemmas.List.{append-nil}
use Rattle.std.proofs.lemmas.List.Folds.{list_any-append, flat_map-map}
use Rattle.tesla_base.specs.declared.names.Name.{Name}
use Rattle.tesla_base.proofs.Lists.{list_all_weaker}
use Rattle.tesla_base.specs.Members.{is_in, Distinct}
use Rattle.tesla_base.proofs.Members.{head_other}
use Rattle.tesla_walks.specs.declared.ordering.Proved.{Proved}
use Rattle.tesla_walks.specs.declared.release.Release.{Release}
use Rattle.tesla_state.specs.Releases.{is_at, each_after, has_name, unless_named}
use Rattle.tesla_state.specs.Steps.{as_release, is_released, released_of, is_named_so, marked}
use Rattle.tesla_state.specs.Stored.{Placed, Stored, slot_of, holding_at, stands_at, is_proved_by, with_released, without, release_of, is_named, after_batch, AreProved, slot_proved, order_of, settled_if, released_if, held_then}
use Rattle.tesla_state.proofs.Named.{same_name}
use Rattle.tesla_state.proofs.Marked.{any_mapped, any_filtered, map_mapped}
use Rattle.tesla_state.proofs.Stored.{released_slot, distinct_kept, proved_rests, rests_stands}

-- ---- one after the other

-- what is held once all are settled
abbrev pub held_all : List Placed → List Proved → List Placed
held_all held [] = held
held_all held (p ∷ ps) = held_all (held_then held p) ps

-- those that are released
abbrev pub out_of : List Placed → List Proved → List Proved
out_of held [] = []
out_of held (p ∷ ps) = released_if (is_named held p.release.name) p ++ out_of (held_then held p) ps

-- ---- the others stay proved

proved_kept : (p q : Proved) → (q.place.0 == p.place.0) ≡ false → (x : Placed) → not (stands_at p.place.0 x) ≡ false → is_proved_by q x ≡ false
proved_kept p q other x h =
    and_left (stands_at q.place.0 x) (not x.holding.released && (x.holding.order == q.release.place && (x.holding.name.interval == q.release.name.interval && x.holding.name.number == q.release.name.number)))
    (ne_eqb x.place q.place.0 (λ e. both_ways (q.place.0 == p.place.0) other (eq-eqb q.place.0 p.place.0 (sym e ∙ eqb-true x.place p.place.0 (not-false (stands_at p.place.0 x) h)))))

proved_marked_at : (p q : Proved) (b : Bool) (x : Placed) → stands_at p.place.0 x ≡ b → (q.place.0 == p.place.0) ≡ false → is_proved_by q (cond b (record x { holding = record x.holding { released = true } }) x) ≡ is_proved_by q x
proved_marked_at p q true x e other =
    let none : stands_at q.place.0 x ≡ false = ne_eqb x.place q.place.0 (λ k. both_ways (q.place.0 == p.place.0) other (eq-eqb q.place.0 p.place.0 (sym k ∙ eqb-true x.place p.place.0 e))) in
    and_left (stands_at q.place.0 x) (not true && (x.holding.order == q.release.place && (x.holding.name.interval == q.release.name.interval && x.holding.name.number == q.release.name.number))) none
    ∙ sym (and_left (stands_at q.place.0 x) (not x.holding.released && (x.holding.order == q.release.place && (x.holding.name.interval == q.release.name.interval && x.holding.name.number == q.release.name.number))) none)
proved_marked_at p q false x e other = refl

one_stays : (b : Bool) (p q : Proved) (held : List Placed) → (q.place.0 == p.place.0) ≡ false → list_any (is_proved_by q) (settled_if b held p) ≡ list_any (is_proved_by q) held
one_stays true p q held other = any_filtered (is_proved_by q) (λ x. not (stands_at p.place.0 x)) (proved_kept p q other) held
one_stays false p q held other = any_mapped (is_proved_by q) (is_proved_by q) (with_released p.place.0) (λ x. proved_marked_at p q (stands_at p.place.0 x) x refl other) held

pub rest_proved : (b : Bool) (p : Proved) (ps : List Proved) (held : List Placed) → is_in p.place.0 (map slot_proved ps) ≡ false → AreProved held ps → AreProved (settled_if b held p) ps
rest_proved b p [] held none h = refl
rest_proved b p (q ∷ qs) held none h =
    let first : (q.place.0 == p.place.0) ≡ false = false_from_ne_true (q.place.0 == p.place.0) (λ e. both_ways (is_in p.place.0 (map slot_proved (q ∷ qs))) none (or_left (q.place.0 == p.place.0) (is_in p.place.0 (map slot_proved qs)) e)) in
    let rest : is_in p.place.0 (map slot_proved qs) ≡ false = sym (ap (λ t. t || is_in p.place.0 (map slot_proved qs)) first) ∙ none in
    let parts = and_parts (list_any (is_proved_by q) held) (list_all (λ k. list_any (is_proved_by k) held) qs) h in
    and_from (list_any (is_proved_by q) (settled_if b held p)) (list_all (λ k. list_any (is_proved_by k) (settled_if b held p)) qs)
    (one_stays b p q held first ∙ parts.0) (rest_proved b p qs held rest parts.1)

distinct_if : (b : Bool) (p : Proved) (held : List Placed) → Distinct (map slot_of held) → Distinct (map slot_of (settled_if b held p))
distinct_if true p held d = distinct_kept (λ x. not (stands_at p.place.0 x)) held d
distinct_if false p held d = subst Distinct (sym (map_mapped slot_of (with_released p.place.0) slot_of (released_slot p.place.0) held)) d

-- ---- each slot has one packet

none_there : (p : ℕ) (f : Placed → Bool) (held : List Placed) → is_in p (map slot_of held) ≡ false → list_all (λ x. not (stands_at p x) || f x) held ≡ true
none_there p f [] h = refl
none_there p f (x ∷ xs) h =
    let first : (x.place == p) ≡ false = false_from_ne_true (x.place == p) (λ e. both_ways (is_in p (map slot_of (x ∷ xs))) h (or_left (x.place == p) (is_in p (map slot_of xs)) e)) in
    let rest : is_in p (map slot_of xs) ≡ false = sym (ap (λ t. t || is_in p (map slot_of xs)) first) ∙ h in
    and_from (not (stands_at p x) || f x) (list_all (λ y. not (stands_at p y) || f y) xs) (ap (λ t. not t || f x) first) (none_there p f xs rest)

is_there : (p : ℕ) (f : Placed → Bool) (held : List Placed) → list_any (λ x. stands_at p x && f x) held ≡ true → is_in p (map slot_of held) ≡ true
is_there p f [] h = absurd (cc)
is_there p f (x ∷ xs) h =
    ⊎_elim
    (λ e. or_left (x.place == p) (is_in p (map slot_of xs)) (and_parts (x.place == p) (f x) e).0)
    (λ e. or_right (x.place == p) (is_in p (map slot_of xs)) (is_there p f xs e))
    (or_cases (stands_at p x && f x) (list_any (λ y. stands_at p y && f y) xs) h)

-- what one packet in a slot passes, each there passes
pub only_at : (p : ℕ) (f : Placed → Bool) (held : List Placed) → Distinct (map slot_of held) → list_any (λ x. stands_at p x && f x) held ≡ true → list_all (λ x. not (stands_at p x) || f x) held ≡ true
only_at p f [] d h = refl
only_at p f (x ∷ xs) d h =
    ⊎_elim
    (λ e. let parts = and_parts (stands_at p x) (f x) e in
    and_from (not (stands_at p x) || f x) (list_all (λ y. not (stands_at p y) || f y) xs) (or_right (not (stands_at p x)) (f x) parts.1)
    (none_there p f xs (ap (λ (n : ℕ). is_in n (map slot_of xs)) (sym (eqb-true x.place p parts.0)) ∙ d.0)))
    (λ e. and_from (not (stands_at p x) || f x) (list_all (λ y. not (stands_at p y) || f y) xs)
    (or_left (not (stands_at p x)) (f x) (not_from_false (stands_at p x) (false_from_ne_true (stands_at p x) (λ k. both_ways (is_in x.place (map slot_of xs)) d.0 (ap (λ (n : ℕ). is_in n (map slot_of xs)) (eqb-true x.place p k) ∙ is_there p f xs e)))))
    (only_at p f xs d.1 e))
    (or_cases (stands_at p x && f x) (list_any (λ y. stands_at p y && f y) xs) h)

-- the packet is unreleased, and the one of the release
abbrev is_of_release : Proved → Placed → Bool
is_of_release proved x = not x.holding.released && (x.holding.order == proved.release.place && (x.holding.name.interval == proved.release.name.interval && x.holding.name.number == proved.release.name.number))

-- ---- the names of what is released

abbrev pub named_by : Name → Placed → Bool
named_by name x = is_named_so name x.holding

-- the released packets have the names of these releases
abbrev pub Agree : List Release → List Placed → Type 0
Agree before held = (n : Name) → list_any (has_name n) before ≡ list_any (named_by n) held

unreleased_named : (p : Proved) (n : Name) (x : Placed) → is_of_release p x ≡ true → named_by n x ≡ false
unreleased_named p n x h =
    ap (λ t. t && has_name n (as_release x.holding)) (not-true x.holding.released (and_parts (not x.holding.released) (x.holding.order == p.release.place && (x.holding.name.interval == p.release.name.interval && x.holding.name.number == p.release.name.number)) h).0)

named_same : (p : Proved) (n : Name) (x : Placed) → is_of_release p x ≡ true → has_name n (as_release x.holding) ≡ has_name n p.release
named_same p n x h =
    let v = (and_parts (not x.holding.released) (x.holding.order == p.release.place && (x.holding.name.interval == p.release.name.interval && x.holding.name.number == p.release.name.number)) h).1 in
    let w = (and_parts (x.holding.order == p.release.place) (x.holding.name.interval == p.release.name.interval && x.holding.name.number == p.release.name.number) v).1 in
    let k = and_parts (x.holding.name.interval == p.release.name.interval) (x.holding.name.number == p.release.name.number) w in
    ap (λ (i : ℕ). i == n.interval && x.holding.name.number == n.number) (eqb-true x.holding.name.interval p.release.name.interval k.0)
    ∙ ap (λ (m : ℕ). p.release.name.interval == n.interval && m == n.number) (eqb-true x.holding.name.number p.release.name.number k.1)

-- a filter that leaves out only what fails a test
any_left : (p : ℕ) (f : Placed → Bool) (held : List Placed) → list_all (λ x. not (stands_at p x) || not (f x)) held ≡ true → list_any f (without p held) ≡ list_any f held
any_left p f [] h = refl
any_left p f (x ∷ xs) h =
    let parts = and_parts (not (stands_at p x) || not (f x)) (list_all (λ y. not (stands_at p y) || not (f y)) xs) h in
    ⊎_elim
    (λ e. let fails : f x ≡ false = not-true (f x) (sym (ap (λ t. not t || not (f x)) e) ∙ parts.0) in
    ap (λ t. list_any f (cond (not t) (x ∷ without p xs) (without p xs))) e ∙ any_left p f xs parts.1 ∙ sym (ap (λ t. t || list_any f xs) fails))
    (λ e. ap (λ t. list_any f (cond (not t) (x ∷ without p xs) (without p xs))) e ∙ ap (λ t. f x || t) (any_left p f xs parts.1))
    (cases_Bool (stands_at p x))

one_more_here : (b r s : Bool) → (b || (r || (s && b))) ≡ (r || b)
one_more_here true true s = refl
one_more_here true false s = refl
one_more_here false true s = refl
one_more_here false false true = refl
one_more_here false false false = refl

one_more_other : (a r t : Bool) → (a || (r || t)) ≡ ((a || r) || t)
one_more_other true r t = refl
one_more_other false r t = refl

-- one more that is released has its name
any_one_more : (p : Proved) (n : Name) (held : List Placed) → list_all (λ x. not (stands_at p.place.0 x) || is_of_release p x) held ≡ true → list_any (named_by n) (map (with_released p.place.0) held) ≡ (list_any (named_by n) held || (list_any (stands_at p.place.0) held && has_name n p.release))
any_one_more p n [] h = refl
any_one_more p n (x ∷ xs) h =
    let parts = and_parts (not (stands_at p.place.0 x) || is_of_release p x) (list_all (λ y. not (stands_at p.place.0 y) || is_of_release p y) xs) h in
    let rest = any_one_more p n xs parts.1 in
    let more : Bool = list_any (named_by n) (map (with_released p.place.0) xs) in
    let b : Bool = has_name n p.release in
    let r : Bool = list_any (named_by n) xs in
    let s : Bool = list_any (stands_at p.place.0) xs in
    ⊎_elim
    (λ e. let ours : is_of_release p x ≡ true = sym (ap (λ t. not t || is_of_release p x) e) ∙ parts.0 in
    ap (λ t. named_by n (cond t (record x { holding = record x.holding { released = true } }) x) || more) e
    ∙ ap (λ t. t || more) (named_same p n x ours) ∙ ap (λ t. b || t) rest ∙ one_more_here b r s
    ∙ sym (ap (λ t. (t || r) || ((stands_at p.place.0 x || s) && b)) (unreleased_named p n x ours) ∙ ap (λ t. r || ((t || s) && b)) e))
    (λ e. ap (λ t. named_by n (cond t (record x { holding = record x.holding { released = true } }) x) || more) e
    ∙ ap (λ t. named_by n x || t) rest ∙ one_more_other (named_by n x) r (s && b)
    ∙ sym (ap (λ t. (named_by n x || r) || ((t || s) && b)) e))
    (cases_Bool (stands_at p.place.0 x))

or_same : (a b : Bool) → (b ≡ true → a ≡ true) → (a || (b || false)) ≡ a
or_same true b h = refl
or_same false true h = absurd (false≢true (h refl))
or_same false false h = refl

weaker_there : (p : Proved) (n : Name) (x : Placed) → (not (stands_at p.place.0 x) || is_of_release p x) ≡ true → (not (stands_at p.place.0 x) || not (named_by n x)) ≡ true
weaker_there p n x h =
    ⊎_elim
    (λ e. or_left (not (stands_at p.place.0 x)) (not (named_by n x)) e)
    (λ e. or_right (not (stands_at p.place.0 x)) (not (named_by n x)) (not_from_false (named_by n x) (unreleased_named p n x e)))
    (or_cases (not (stands_at p.place.0 x)) (is_of_release p x) h)

-- the names after one is settled
agree_then : (p : Proved) (before : List Release) (held : List Placed) → Distinct (map slot_of held) → list_any (is_proved_by p) held ≡ true → Agree before held → Agree (before ++ p.release ∷ []) (held_then held p)
agree_then p before held d h agree n =
    let there = only_at p.place.0 (is_of_release p) held d h in
    let a : Bool = list_any (has_name n) before in
    let b : Bool = has_name n p.release in
    list_any-append (has_name n) before (p.release ∷ [])
    ∙ ⊎_elim
    (λ e. or_same a b (λ k. ap (λ (m : Name). list_any (has_name m) before) (sym (same_name n p.release k)) ∙ agree p.release.name ∙ e)
    ∙ agree n ∙ sym (any_left p.place.0 (named_by n) held (list_all_weaker (λ x. not (stands_at p.place.0 x) || is_of_release p x) (λ x. not (stands_at p.place.0 x) || not (named_by n x)) held (weaker_there p n) there))
    ∙ ap (λ t. list_any (named_by n) (settled_if t held p)) (sym e))
    (λ e. ap (λ t. t || (b || false)) (agree n) ∙ ap (λ t. list_any (named_by n) held || t) (or-false b)
    ∙ ap (λ t. list_any (named_by n) held || (t && b)) (sym (rests_stands p.place.0 held (proved_rests p held h)))
    ∙ sym (any_one_more p n held there)
    ∙ ap (λ t. list_any (named_by n) (settled_if t held p)) (sym e))
    (cases_Bool (is_named held p.release.name))

map_if : (t : Bool) (p : Proved) (rest : List Proved) → map release_of (released_if t p ++ rest) ≡ cond t [] (p.release ∷ []) ++ map release_of rest
map_if true p rest = refl
map_if false p rest = refl

-- the first of each name is released
pub out_released : (batch : List Proved) (before : List Release) (held : List Placed) → Distinct (map slot_of held) → AreProved held batch → Distinct (map slot_proved batch) → Agree before held → map release_of (out_of held batch) ≡ each_after unless_named before (map release_of batch)
out_released [] before held d h e agree = refl
out_released (p ∷ ps) before held d h e agree =
    let parts = and_parts (list_any (is_proved_by p) held) (list_all (λ k. list_any (is_proved_by k) held) ps) h in
    let t : Bool = is_named held p.release.name in
    map_if t p (out_of (held_then held p) ps)
    ∙ ap (λ u. cond u [] (p.release ∷ []) ++ map release_of (out_of (held_then held p) ps)) (sym (agree p.release.name))
    ∙ ap (λ rs. unless_named before p.release ++ rs)
    (out_released ps (before ++ p.release ∷ []) (held_then held p) (distinct_if t p held d) (rest_proved t p ps held e.0 parts.1) e.1 (agree_then p before held d parts.0 agree))

-- ---- what stays

abbrev pub any_there : Placed → List Proved → Bool
any_there x batch = is_in x.place (map slot_proved batch)

abbrev released_now : Placed → Placed
released_now x = record x { holding = record x.holding { released = true } }

-- a packet once the batch is settled, by its slot
abbrev pub settled_by : List Proved → List Proved → Placed → List Placed
settled_by batch out x = if any_there x batch && not (any_there x out) then [] else (if any_there x out then released_now x else x) ∷ []

flat_filtered : {A B : Type 0} (f : A → List B) (keep : A → Bool) (xs : List A) → flat_map f (filter keep xs) ≡ flat_map (λ x. cond (keep x) (f x) []) xs
flat_filtered f keep [] = refl
flat_filtered f keep (x ∷ xs) =
    ⊎_elim
    (λ e. ap (λ t. flat_map f (cond t (x ∷ filter keep xs) (filter keep xs))) e ∙ ap (λ ys. f x ++ ys) (flat_filtered f keep xs) ∙ ap (λ t. cond t (f x) [] ++ flat_map (λ y. cond (keep y) (f y) []) xs) (sym e))
    (λ e. ap (λ t. flat_map f (cond t (x ∷ filter keep xs) (filter keep xs))) e ∙ flat_filtered f keep xs ∙ ap (λ t. cond t (f x) [] ++ flat_map (λ y. cond (keep y) (f y) []) xs) (sym e))
    (cases_Bool (keep x))

pub flat_same : {A B : Type 0} (f g : A → List B) → ((x : A) → f x ≡ g x) → (xs : List A) → flat_map f xs ≡ flat_map g xs
flat_same f g same [] = refl
flat_same f g same (x ∷ xs) = ap (λ ys. ys ++ flat_map f xs) (same x) ∙ ap (λ ys. g x ++ ys) (flat_same f g same xs)

flat_unit : (xs : List Placed) → flat_map (λ x. x ∷ []) xs ≡ xs
flat_unit [] = refl
flat_unit (x ∷ xs) = ap (λ ys. x ∷ ys) (flat_unit xs)

none_if : (n : ℕ) (t : Bool) (p : Proved) (rest : List Proved) → (p.place.0 == n) ≡ false → is_in n (map slot_proved rest) ≡ false → is_in n (map slot_proved (released_if t p ++ rest)) ≡ false
none_if n true p rest first h = h
none_if n false p rest first h = ap (λ t. t || is_in n (map slot_proved rest)) first ∙ h

none_out : (n : ℕ) (batch : List Proved) (held : List Placed) → is_in n (map slot_proved batch) ≡ false → is_in n (map slot_proved (out_of held batch)) ≡ false
none_out n [] held h = refl
none_out n (p ∷ ps) held h =
    let first : (p.place.0 == n) ≡ false = false_from_ne_true (p.place.0 == n) (λ e. both_ways (is_in n (map slot_proved (p ∷ ps))) h (or_left (p.place.0 == n) (is_in n (map slot_proved ps)) e)) in
    let rest : is_in n (map slot_proved ps) ≡ false = sym (ap (λ t. t || is_in n (map slot_proved ps)) first) ∙ h in
    none_if n (is_named held p.release.name) p (out_of (held_then held p) ps) first (none_out n ps (held_then held p) rest)

-- a packet in another slot, or in that of the first of the batch
gone_there : (p : Proved) (ps out : List Proved) (x : Placed) (b : Bool) → (p.place.0 == x.place) ≡ b → is_in p.place.0 (map slot_proved ps) ≡ false → is_in p.place.0 (map slot_proved out) ≡ false → cond (not b) (settled_by ps out x) [] ≡ settled_by (p ∷ ps) out x
gone_there p ps out x true e none unheard =
    let none_here : any_there x out ≡ false = ap (λ (n : ℕ). is_in n (map slot_proved out)) (sym (eqb-true p.place.0 x.place e)) ∙ unheard in
    sym (ap (λ t. cond ((t || any_there x ps) && not (any_there x out)) [] (cond (any_there x out) (released_now x) x ∷ [])) e
    ∙ ap (λ t. cond (not t) [] (cond t (released_now x) x ∷ [])) none_here)
gone_there p ps out x false e none unheard = sym (ap (λ t. cond ((t || any_there x ps) && not (any_there x out)) [] (cond (any_there x out) (released_now x) x ∷ [])) e)

marked_there : (p : Proved) (ps out : List Proved) (x : Placed) (b : Bool) → (p.place.0 == x.place) ≡ b → is_in p.place.0 (map slot_proved ps) ≡ false → is_in p.place.0 (map slot_proved out) ≡ false → settled_by ps out (cond b (released_now x) x) ≡ settled_by (p ∷ ps) (p ∷ out) x
marked_there p ps out x true e none unheard =
    let none_here : any_there x out ≡ false = ap (λ (n : ℕ). is_in n (map slot_proved out)) (sym (eqb-true p.place.0 x.place e)) ∙ unheard in
    let none_left : any_there x ps ≡ false = ap (λ (n : ℕ). is_in n (map slot_proved ps)) (sym (eqb-true p.place.0 x.place e)) ∙ none in
    ap (λ t. cond (t && not (any_there x out)) [] (cond (any_there x out) (released_now x) (released_now x) ∷ [])) none_left
    ∙ ap (λ t. cond t (released_now x) (released_now x) ∷ []) none_here
    ∙ sym (ap (λ t. cond ((t || any_there x ps) && not (t || any_there x out)) [] (cond (t || any_there x out) (released_now x) x ∷ [])) e)
marked_there p ps out x false e none unheard =
    sym (ap (λ t. cond ((t || any_there x ps) && not (t || any_there x out)) [] (cond (t || any_there x out) (released_now x) x ∷ [])) e)

pub eq_turn : (a b : ℕ) → (a == b) ≡ (b == a)
eq_turn a b = ⊎_elim (λ e. e ∙ sym (eq-eqb b a (sym (eqb-true a b e)))) (λ e. e ∙ sym (ne_eqb b a (λ k. both_ways (a == b) e (eq-eqb a b (sym k))))) (cases_Bool (a == b))

kept_if : (t : Bool) (p : Proved) (ps out : List Proved) (held : List Placed) → is_in p.place.0 (map slot_proved ps) ≡ false → is_in p.place.0 (map slot_proved out) ≡ false → flat_map (settled_by ps out) (settled_if t held p) ≡ flat_map (settled_by (p ∷ ps) (released_if t p ++ out)) held
kept_if true p ps out held none unheard =
    flat_filtered (settled_by ps out) (λ x. not (stands_at p.place.0 x)) held
    ∙ flat_same (λ x. cond (not (stands_at p.place.0 x)) (settled_by ps out x) []) (settled_by (p ∷ ps) out) (λ x. gone_there p ps out x (stands_at p.place.0 x) (eq_turn p.place.0 x.place) none unheard) held
kept_if false p ps out held none unheard =
    flat_map-map (settled_by ps out) (with_released p.place.0) held
    ∙ flat_same (λ x. settled_by ps out (with_released p.place.0 x)) (settled_by (p ∷ ps) (p ∷ out)) (λ x. marked_there p ps out x (stands_at p.place.0 x) (eq_turn p.place.0 x.place) none unheard) held

pub held_settled : (batch : List Proved) (held : List Placed) → Distinct (map slot_proved batch) → held_all held batch ≡ flat_map (settled_by batch (out_of held batch)) held
held_settled [] held e = sym (flat_unit held)
held_settled (p ∷ ps) held e =
    let t : Bool = is_named held p.release.name in
    held_settled ps (held_then held p) e.1 ∙ kept_if t p ps (out_of (held_then held p) ps) held e.0 (none_out p.place.0 ps (held_then held p) e.0)

-- ---- by their numbers

abbrev same_bool : Bool → Bool → Bool
same_bool a b = (a && b) || (not a && not b)

from_same : (a b : Bool) → same_bool a b ≡ true → a ≡ b
from_same true true h = refl
from_same true false h = absurd (false≢true h)
from_same false true h = absurd (false≢true h)
from_same false false h = refl

-- the two tell the same of a packet
abbrev tell_same : Proved → Placed → Bool
tell_same q x = same_bool (q.place.0 == x.place) (q.release.place == x.holding.order)

not_in_head : (n : ℕ) (x : ℕ) (xs : List ℕ) → is_in n (x ∷ xs) ≡ false → ((x == n) ≡ false) × (is_in n xs ≡ false)
not_in_head n x xs h =
    let first : (x == n) ≡ false = false_from_ne_true (x == n) (λ e. both_ways (is_in n (x ∷ xs)) h (or_left (x == n) (is_in n xs) e)) in
    (first, sym (ap (λ t. t || is_in n xs) first) ∙ h)

tell_false : (q : Proved) (x : Placed) → (x.place == q.place.0) ≡ false → (x.holding.order == q.release.place) ≡ false → tell_same q x ≡ true
tell_false q x a b = ap (λ t. same_bool t (q.release.place == x.holding.order)) (eq_turn q.place.0 x.place ∙ a) ∙ ap (λ t. same_bool false t) (eq_turn q.release.place x.holding.order ∙ b)

tell_true : (q : Proved) (x : Placed) → (x.place == q.place.0) ≡ true → (x.holding.order == q.release.place) ≡ true → tell_same q x ≡ true
tell_true q x a b = ap (λ t. same_bool t (q.release.place == x.holding.order)) (eq_turn q.place.0 x.place ∙ a) ∙ ap (λ t. same_bool true t) (eq_turn q.release.place x.holding.order ∙ b)

tell_none : (q : Proved) (held : List Placed) → is_in q.place.0 (map slot_of held) ≡ false → is_in q.release.place (map order_of held) ≡ false → list_all (tell_same q) held ≡ true
tell_none q [] a b = refl
tell_none q (x ∷ xs) a b =
    let u = not_in_head q.place.0 x.place (map slot_of xs) a in
    let v = not_in_head q.release.place x.holding.order (map order_of xs) b in
    and_from (tell_same q x) (list_all (tell_same q) xs) (tell_false q x u.0 v.0) (tell_none q xs u.1 v.1)

-- the order of what is proved is the one of the release
order_there : (q : Proved) (x : Placed) → is_of_release q x ≡ true → (x.holding.order == q.release.place) ≡ true
order_there q x h = (and_parts (x.holding.order == q.release.place) (x.holding.name.interval == q.release.name.interval && x.holding.name.number == q.release.name.number) (and_parts (not x.holding.released) (x.holding.order == q.release.place && (x.holding.name.interval == q.release.name.interval && x.holding.name.number == q.release.name.number)) h).1).0

has_order : (q : Proved) (held : List Placed) → list_any (is_proved_by q) held ≡ true → is_in q.release.place (map order_of held) ≡ true
has_order q [] h = absurd (cc)
has_order q (x ∷ xs) h =
    ⊎_elim
    (λ e. or_left (x.holding.order == q.release.place) (is_in q.release.place (map order_of xs)) (order_there q x (and_parts (stands_at q.place.0 x) (is_of_release q x) e).1))
    (λ e. or_right (x.holding.order == q.release.place) (is_in q.release.place (map order_of xs)) (has_order q xs e))
    (or_cases (is_proved_by q x) (list_any (is_proved_by q) xs) h)

tell_all : (q : Proved) (held : List Placed) → Distinct (map slot_of held) → Distinct (map order_of held) → list_any (is_proved_by q) held ≡ true → list_all (tell_same q) held ≡ true
tell_all q [] d o h = refl
tell_all q (x ∷ xs) d o h =
    ⊎_elim
    (λ e. let parts = and_parts (stands_at q.place.0 x) (is_of_release q x) e in
    let order = order_there q x parts.1 in
    and_from (tell_same q x) (list_all (tell_same q) xs) (tell_true q x parts.0 order)
    (tell_none q xs (ap (λ (n : ℕ). is_in n (map slot_of xs)) (sym (eqb-true x.place q.place.0 parts.0)) ∙ d.0) (ap (λ (n : ℕ). is_in n (map order_of xs)) (sym (eqb-true x.holding.order q.release.place order)) ∙ o.0)))
    (λ e. and_from (tell_same q x) (list_all (tell_same q) xs)
    (tell_false q x (head_other q.place.0 x.place (map slot_of xs) d.0 (is_there q.place.0 (is_of_release q) xs e)) (head_other q.release.place x.holding.order (map order_of xs) o.0 (has_order q xs e)))
    (tell_all q xs d.1 o.1 e))
    (or_cases (is_proved_by q x) (list_any (is_proved_by q) xs) h)

all_swap : {A B : Type 0} (f : A → B → Bool) (xs : List A) (ys : List B) → list_all (λ a. list_all (f a) ys) xs ≡ true → list_all (λ b. list_all (λ a. f a b) xs) ys ≡ true
all_swap f xs [] h = refl
all_swap f xs (y ∷ ys) h =
    and_from (list_all (λ a. f a y) xs) (list_all (λ b. list_all (λ a. f a b) xs) ys)
    (list_all_weaker (λ a. list_all (f a) (y ∷ ys)) (λ a. f a y) xs (λ a e. (and_parts (f a y) (list_all (f a) ys) e).0) h)
    (all_swap f xs ys (list_all_weaker (λ a. list_all (f a) (y ∷ ys)) (λ a. list_all (f a) ys) xs (λ a e. (and_parts (f a y) (list_all (f a) ys) e).1) h))

all_tell : (batch : List Proved) (held : List Placed) → Distinct (map slot_of held) → Distinct (map order_of held) → AreProved held batch → list_all (λ x. list_all (λ q. tell_same q x) batch) held ≡ true
all_tell batch held d o h = all_swap tell_same batch held (list_all_weaker (λ q. list_any (is_proved_by q) held) (λ q. list_all (tell_same q) held) batch (λ q e. tell_all q held d o e) h)

any_tell : (x : Placed) (batch : List Proved) → list_all (λ q. tell_same q x) batch ≡ true → any_there x batch ≡ list_any (is_at x.holding.order) (map release_of batch)
any_tell x [] h = refl
any_tell x (q ∷ qs) h =
    let parts = and_parts (tell_same q x) (list_all (λ k. tell_same k x) qs) h in
    ap (λ t. t || any_there x qs) (from_same (q.place.0 == x.place) (q.release.place == x.holding.order) parts.0) ∙ ap (λ t. (q.release.place == x.holding.order) || t) (any_tell x qs parts.1)

all_if : (f : Proved → Bool) (t : Bool) (p : Proved) (rest : List Proved) → f p ≡ true → list_all f rest ≡ true → list_all f (released_if t p ++ rest) ≡ true
all_if f true p rest a b = b
all_if f false p rest a b = and_from (f p) (list_all f rest) a b

all_out : (f : Proved → Bool) (batch : List Proved) (held : List Placed) → list_all f batch ≡ true → list_all f (out_of held batch) ≡ true
all_out f [] held h = refl
all_out f (p ∷ ps) held h =
    let parts = and_parts (f p) (list_all f ps) h in
    all_if f (is_named held p.release.name) p (out_of (held_then held p) ps) parts.0 (all_out f ps (held_then held p) parts.1)

pub flat_same_in : {A B : Type 0} (f g : A → List B) (ok : A → Bool) → ((x : A) → ok x ≡ true → f x ≡ g x) → (xs : List A) → list_all ok xs ≡ true → flat_map f xs ≡ flat_map g xs
flat_same_in f g ok same [] h = refl
flat_same_in f g ok same (x ∷ xs) h =
    let parts = and_parts (ok x) (list_all ok xs) h in
    ap (λ ys. ys ++ flat_map f xs) (same x parts.0) ∙ ap (λ ys. g x ++ ys) (flat_same_in f g ok same xs parts.1)

or_true : (b : Bool) → (b || true) ≡ true
or_true true = refl
or_true false = refl

marked_if : (b : Bool) (x : Placed) → cond b (released_now x) x ≡ record x { holding = record x.holding { released = x.holding.released || b } }
marked_if true x = ap (λ t. record x { holding = record x.holding { released = t } }) (sym (or_true x.holding.released))
marked_if false x = ap (λ t. record x { holding = record x.holding { released = t } }) (sym (or-false x.holding.released))

by_number : (batch out : List Proved) (x : Placed) → list_all (λ q. tell_same q x) batch ≡ true → list_all (λ q. tell_same q x) out ≡ true → settled_by batch out x ≡ after_batch (map release_of batch) (map release_of out) x
by_number batch out x h k =
    ap (λ y. cond (any_there x batch && not (any_there x out)) [] (y ∷ [])) (marked_if (any_there x out) x)
    ∙ ap (λ t. cond (any_there x batch && not t) [] (record x { holding = record x.holding { released = x.holding.released || t } } ∷ [])) (any_tell x out k)
    ∙ ap (λ t. cond (t && not (list_any (is_at x.holding.order) (map release_of out))) [] (record x { holding = marked (map release_of out) x.holding } ∷ [])) (any_tell x batch h)

any_filter : {A : Type 0} (f k : A → Bool) (xs : List A) → list_any f (filter k xs) ≡ list_any (λ x. k x && f x) xs
any_filter f k [] = refl
any_filter f k (x ∷ xs) =
    ⊎_elim
    (λ e. ap (λ t. list_any f (cond t (x ∷ filter k xs) (filter k xs))) e ∙ ap (λ t. f x || t) (any_filter f k xs) ∙ ap (λ t. (t && f x) || list_any (λ y. k y && f y) xs) (sym e))
    (λ e. ap (λ t. list_any f (cond t (x ∷ filter k xs) (filter k xs))) e ∙ any_filter f k xs ∙ ap (λ t. (t && f x) || list_any (λ y. k y && f y) xs) (sym e))
    (cases_Bool (k x))

pub agree_first : (held : List Placed) → Agree (map as_release (filter is_released (map holding_at held))) held
agree_first held n =
    any_mapped (has_name n) (λ i. has_name n (as_release i)) as_release (λ i. refl) (filter is_released (map holding_at held))
    ∙ any_filter (λ i. has_name n (as_release i)) is_released (map holding_at held)
    ∙ any_mapped (λ i. is_named_so n i) (named_by n) holding_at (λ x. refl) held

-- ---- all of a batch

pub waiting_all : (batch : List Proved) (held : List Placed) → Distinct (map slot_of held) → AreProved held batch → Distinct (map slot_proved batch) → map release_of (out_of held batch) ≡ released_of (map holding_at held) (map release_of batch)
waiting_all batch held d h e = out_released batch (map as_release (filter is_released (map holding_at held))) held d h e (agree_first held)

pub held_all_is : (batch : List Proved) (held : List Placed) → Distinct (map slot_of held) → Distinct (map order_of held) → AreProved held batch → Distinct (map slot_proved batch) → held_all held batch ≡ flat_map (after_batch (map release_of batch) (released_of (map holding_at held) (map release_of batch))) held
held_all_is batch held d o h e =
    held_settled batch held e
    ∙ flat_same_in (settled_by batch (out_of held batch)) (after_batch (map release_of batch) (map release_of (out_of held batch))) (λ x. list_all (λ q. tell_same q x) batch)
    (λ x k. by_number batch (out_of held batch) x k (all_out (λ q. tell_same q x) batch held k)) held (all_tell batch held d o h)
    ∙ ap (λ rs. flat_map (after_batch (map release_of batch) rs) held) (waiting_all batch held d h e)

map-append_released : (xs ys : List Proved) → map release_of (xs ++ ys) ≡ map release_of xs ++ map release_of ys
map-append_released [] ys = refl
map-append_released (x ∷ xs) ys = ap (λ rs. x.release ∷ rs) (map-append_released xs ys)

-- so many of a batch were settled
pub record Settling (old new : Stored) (batch : List Proved) (n : ℕ) : Type 0 where
  pub within : n ≤ length batch
  pub capacity : new.capacity ≡ old.capacity
  pub reserved : new.reserved ≡ old.reserved
  pub chains : new.chains ≡ old.chains
  pub given : new.given ≡ old.given
  pub held : held_all new.held (drop n batch) ≡ held_all old.held batch
  pub waiting : new.waiting ++ map release_of (out_of new.held (drop n batch)) ≡ old.waiting ++ map release_of (out_of old.held batch)
  pub proved : AreProved new.held (drop n batch)
  pub slots : Distinct (map slot_proved (drop n batch))

pub settling_more : (old new next : Stored) (batch : List Proved) (n : ℕ) (p : Proved) → Settling old new batch n → n < length batch → p ≡ get_or batch n p → next.capacity ≡ new.capacity → next.reserved ≡ new.reserved → next.chains ≡ new.chains → next.given ≡ new.given → next.held ≡ held_then new.held p → next.waiting ≡ new.waiting ++ map release_of (released_if (is_named new.held p.release.name) p) → Settling old next batch (n + 1)
settling_more old new next batch n p s within is capacity reserved chains given held waiting =
    let rest : List Proved = drop (n + 1) batch in
    let t : Bool = is_named new.held p.release.name in
    let next_is : suc n ≡ n + 1 = omega arith in
    let parts : drop n batch ≡ p ∷ rest = drop-cons batch n p within ∙ ap (λ q. q ∷ drop (suc n) batch) (sym is) ∙ ap (λ (k : ℕ). p ∷ drop k batch) next_is in
    let proved = and_parts (list_any (is_proved_by p) new.held) (list_all (λ k. list_any (is_proved_by k) new.held) rest) (ap (λ qs. list_all (λ k. list_any (is_proved_by k) new.held) qs) (sym parts) ∙ s.proved) in
    let slots = subst (λ qs. Distinct (map slot_proved qs)) parts s.slots in
    record {
      within = omega arith;
      capacity = capacity ∙ s.capacity;
      reserved = reserved ∙ s.reserved;
      chains = chains ∙ s.chains;
      given = given ∙ s.given;
      held = ap (λ h. held_all h rest) held ∙ ap (λ qs. held_all new.held qs) (sym parts) ∙ s.held;
      waiting = ap (λ ws. ws ++ map release_of (out_of next.held rest)) waiting
          ∙ ap (λ h. (new.waiting ++ map release_of (released_if t p)) ++ map release_of (out_of h rest)) held
          ∙ append_assoc new.waiting (map release_of (released_if t p)) (map release_of (out_of (held_then new.held p) rest))
          ∙ ap (λ rs. new.waiting ++ rs) (sym (map-append_released (released_if t p) (out_of (held_then new.held p) rest)))
          ∙ ap (λ qs. new.waiting ++ map release_of (out_of new.held qs)) (sym parts)
          ∙ s.waiting;
      proved = ap (λ h. list_all (λ k. list_any (is_proved_by k) h) rest) held ∙ rest_proved t p rest new.held slots.0 proved.1;
      slots = slots.1;
    }

pub next_proved : (old new : Stored) (batch : List Proved) (n : ℕ) (p : Proved) → Settling old new batch n → n < length batch → p ≡ get_or batch n p → list_any (is_proved_by p) new.held ≡ true
next_proved old new batch n p s within is =
    let parts : drop n batch ≡ p ∷ drop (suc n) batch = drop-cons batch n p within ∙ ap (λ q. q ∷ drop (suc n) batch) (sym is) in
    (and_parts (list_any (is_proved_by p) new.held) (list_all (λ k. list_any (is_proved_by k) new.held) (drop (suc n) batch)) (ap (λ qs. list_all (λ k. list_any (is_proved_by k) new.held) qs) (sym parts) ∙ s.proved)).0

pub settling_none : (old : Stored) (batch : List Proved) → AreProved old.held batch → Distinct (map slot_proved batch) → Settling old old batch 0
settling_none old batch h e = record { within = omega arith; capacity = refl; reserved = refl; chains = refl; given = refl; held = refl; waiting = refl; proved = h; slots = e }

pub settling_all : (old new : Stored) (batch : List Proved) (n : ℕ) → Settling old new batch n → length batch ≤ n → (new.held ≡ held_all old.held batch) × (new.waiting ≡ old.waiting ++ map release_of (out_of old.held batch))
settling_all old new batch n s h =
    let none : drop n batch ≡ [] = drop_of_length-le batch h in
    (ap (λ qs. held_all new.held qs) (sym none) ∙ s.held, sym (append-nil new.waiting) ∙ ap (λ qs. new.waiting ++ map release_of (out_of new.held qs)) (sym none) ∙ s.waiting)
