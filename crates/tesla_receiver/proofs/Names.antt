-- The first of each name, by which names stand before.
use Rattle.std.proofs.Common.{◌≡◌, ℕ, ◌+◌, Bool, true, false, cond, ◌||◌, List, [], ◌∷◌, ◌++◌, flat_map, Some, refl, sym, ap, subst, ⊎_elim, ◌⊎◌, ◌∙◌, arith, suc}
use Rattle.std.specs.Prelude.{slice_get}
use Rattle.std.specs.List.{list_any, list_all, enumerate_from}
use Rattle.std.proofs.Math.Bool.{or-false}
use Rattle.std.proofs.lemmas.Bool.{and_parts, cases_Bool, or_cases, or_from, or_left, both_ways}
use Rattle.std.proofs.lemmas.List.Folds.{list_any-append}
use Rattle.tesla_base.specs.declared.names.Name.{Name}
use Rattle.tesla_walks.specs.declared.release.Release.{Release}
use Rattle.tesla_state.specs.Releases.{each_after, has_name, unless_named}
use Rattle.tesla_receiver.proofs.EachAfter.{each_after-append}
use Rattle.tesla_state.proofs.Named.{same_name}

-- the two lists have the same of the names that pass
abbrev pub AgreeOn : (Name → Bool) → List Release → List Release → Type 0
AgreeOn ok a b = (n : Name) → ok n ≡ true → list_any (has_name n) a ≡ list_any (has_name n) b

-- the names that were seen stand in the list
abbrev pub SeenIn : (Name → Bool) → List Release → Type 0
SeenIn seen a = (n : Name) → seen n ≡ true → list_any (has_name n) a ≡ true

agree_more : (ok : Name → Bool) (a b ys : List Release) → AgreeOn ok a b → AgreeOn ok (a ++ ys) (b ++ ys)
agree_more ok a b ys agree n h = list_any-append (has_name n) a ys ∙ ap (λ t. t || list_any (has_name n) ys) (agree n h) ∙ sym (list_any-append (has_name n) b ys)

seen_more : (seen : Name → Bool) (a ys : List Release) → SeenIn seen a → SeenIn seen (a ++ ys)
seen_more seen a ys stands n h = list_any-append (has_name n) a ys ∙ or_left (list_any (has_name n) a) (list_any (has_name n) ys) (stands n h)

-- after lists that have the same of the names of these, the same come first
pub firsts_same : (ok : Name → Bool) (a b xs : List Release) → AgreeOn ok a b → list_all (λ r. ok r.name) xs ≡ true → each_after unless_named a xs ≡ each_after unless_named b xs
firsts_same ok a b [] agree h = refl
firsts_same ok a b (x ∷ xs) agree h =
    let parts = and_parts (ok x.name) (list_all (λ r. ok r.name) xs) h in
    ap (λ t. cond t [] (x ∷ []) ++ each_after unless_named (a ++ x ∷ []) xs) (agree x.name parts.0)
    ∙ ap (λ r. unless_named b x ++ r) (firsts_same ok (a ++ x ∷ []) (b ++ x ∷ []) xs (agree_more ok a b (x ∷ []) agree) parts.1)

-- none comes first where the names of all stand before
no_firsts : (seen : Name → Bool) (a xs : List Release) → SeenIn seen a → list_all (λ r. seen r.name) xs ≡ true → each_after unless_named a xs ≡ []
no_firsts seen a [] stands h = refl
no_firsts seen a (x ∷ xs) stands h =
    let parts = and_parts (seen x.name) (list_all (λ r. seen r.name) xs) h in
    ap (λ t. cond t [] (x ∷ []) ++ each_after unless_named (a ++ x ∷ []) xs) (stands x.name parts.0) ∙ no_firsts seen (a ++ x ∷ []) xs (seen_more seen a (x ∷ []) stands) parts.1

-- a name of releases whose names all stand before stands before
named_before : (seen : Name → Bool) (a xs : List Release) (n : Name) → SeenIn seen a → list_all (λ r. seen r.name) xs ≡ true → list_any (has_name n) xs ≡ true → list_any (has_name n) a ≡ true
named_before seen a [] n stands h named = absurd (cc)
named_before seen a (x ∷ xs) n stands h named =
    let parts = and_parts (seen x.name) (list_all (λ r. seen r.name) xs) h in
    ⊎_elim
    (λ e. ap (λ (m : Name). list_any (has_name m) a) (sym (same_name n x e)) ∙ stands x.name parts.0)
    (λ e. named_before seen a xs n stands parts.1 e)
    (or_cases (has_name n x) (list_any (has_name n) xs) named)

agree_past : (ok seen : Name → Bool) (a b xs : List Release) → AgreeOn ok a b → SeenIn seen a → list_all (λ r. seen r.name) xs ≡ true → AgreeOn ok (a ++ xs) b
agree_past ok seen a b xs agree stands h n good =
    list_any-append (has_name n) a xs
    ∙ ⊎_elim
    (λ e. or_left (list_any (has_name n) a) (list_any (has_name n) xs) e ∙ sym e)
    (λ e. ap (λ t. t || list_any (has_name n) xs) e ∙ ⊎_elim (λ f. absurd (both_ways (list_any (has_name n) a) e (named_before seen a xs n stands h f))) (λ f. f ∙ sym e) (cases_Bool (list_any (has_name n) xs)))
    (cases_Bool (list_any (has_name n) a))
    ∙ agree n good

-- the same releases, whose names pass, or none where the names of all were seen
abbrev pub SameOrSeen : (Name → Bool) → (Name → Bool) → List Release → List Release → Type 0
SameOrSeen ok seen u v = ((u ≡ v) × (list_all (λ r. ok r.name) u ≡ true)) ⊎ ((v ≡ []) × (list_all (λ r. seen r.name) u ≡ true))

firsts_step : (ok seen : Name → Bool) (u v a b xs ys : List Release) → AgreeOn ok a b → SeenIn seen a → SameOrSeen ok seen u v → ((a b : List Release) → AgreeOn ok a b → SeenIn seen a → each_after unless_named a xs ≡ each_after unless_named b ys) → each_after unless_named a (u ++ xs) ≡ each_after unless_named b (v ++ ys)
firsts_step ok seen u v a b xs ys agree stands step later =
    ⊎_elim
    (λ p. each_after-append unless_named a u xs
    ∙ ap (λ r. r ++ each_after unless_named (a ++ u) xs) (firsts_same ok a b u agree p.1)
    ∙ ap (λ r. each_after unless_named b u ++ r) (later (a ++ u) (b ++ u) (agree_more ok a b u agree) (seen_more seen a u stands))
    ∙ sym (each_after-append unless_named b u ys) ∙ ap (λ w. each_after unless_named b (w ++ ys)) p.0)
    (λ p. each_after-append unless_named a u xs
    ∙ ap (λ r. r ++ each_after unless_named (a ++ u) xs) (no_firsts seen a u stands p.1)
    ∙ later (a ++ u) b (agree_past ok seen a b u agree stands p.1) (seen_more seen a u stands)
    ∙ ap (λ w. each_after unless_named b (w ++ ys)) (sym p.0))
    step

-- the firsts of what is gathered along numbered elements, where each gives the same or only what was seen
pub firsts_gathered : {A : Type 0} (ok seen : Name → Bool) (f g : ℕ × A → List Release) (m : ℕ) (xs : List A) (a b : List Release) → AgreeOn ok a b → SeenIn seen a → ((k : ℕ) (x : A) → slice_get xs k ≡ Some x → SameOrSeen ok seen (f (m + k, x)) (g (m + k, x))) → each_after unless_named a (flat_map f (enumerate_from m xs)) ≡ each_after unless_named b (flat_map g (enumerate_from m xs))
firsts_gathered ok seen f g m [] a b agree stands each = refl
firsts_gathered ok seen f g m (x ∷ xs) a b agree stands each =
    let first : m + 0 ≡ m = omega arith in
    let next : (k : ℕ) → m + suc k ≡ m + 1 + k = λ k. omega arith in
    firsts_step ok seen (f (m, x)) (g (m, x)) a b (flat_map f (enumerate_from (m + 1) xs)) (flat_map g (enumerate_from (m + 1) xs)) agree stands
    (subst (λ (n : ℕ). SameOrSeen ok seen (f (n, x)) (g (n, x))) first (each 0 x refl))
    (λ c d also seen_there. firsts_gathered ok seen f g (m + 1) xs c d also seen_there (λ k y at. subst (λ (n : ℕ). SameOrSeen ok seen (f (n, y)) (g (n, y))) (next k) (each (suc k) y at)))

or_true : (b : Bool) → (b || true) ≡ true
or_true true = refl
or_true false = refl

-- each name has its first
pub first_named : (n : Name) (a xs : List Release) → list_any (has_name n) a ≡ false → list_any (has_name n) xs ≡ true → list_any (has_name n) (each_after unless_named a xs) ≡ true
first_named n a [] none h = absurd (cc)
first_named n a (x ∷ xs) none h =
    list_any-append (has_name n) (unless_named a x) (each_after unless_named (a ++ x ∷ []) xs)
    ∙ ⊎_elim
    (λ e. or_left (list_any (has_name n) (unless_named a x)) (list_any (has_name n) (each_after unless_named (a ++ x ∷ []) xs))
    (ap (λ t. list_any (has_name n) (cond t [] (x ∷ []))) (ap (λ (m : Name). list_any (has_name m) a) (same_name n x e) ∙ none) ∙ or-false (has_name n x) ∙ e))
    (λ e. let later : list_any (has_name n) xs ≡ true = sym (ap (λ t. t || list_any (has_name n) xs) e) ∙ h in
    let rest = first_named n (a ++ x ∷ []) xs (list_any-append (has_name n) a (x ∷ []) ∙ or_from (list_any (has_name n) a) (list_any (has_name n) (x ∷ [])) none (or-false (has_name n x) ∙ e)) later in
    ap (λ t. list_any (has_name n) (unless_named a x) || t) rest ∙ or_true (list_any (has_name n) (unless_named a x)))
    (cases_Bool (has_name n x))
