-- What is among lists that are gathered from others.
use Rattle.std.proofs.Common.{◌≡◌, ℕ, zero, suc, ◌+◌, Bool, true, false, cond, ◌&&◌, List, [], ◌∷◌, ◌++◌, take, Some, refl, sym, subst, ⊎_elim, arith, append_assoc}
use Rattle.std.specs.Prelude.{find, slice_get, flat_map}
use Rattle.std.specs.List.{Contains, enumerate_from, list_any}
use Rattle.std.proofs.lemmas.List.{append-nil}
use Rattle.std.proofs.lemmas.List.Elements.{Contains-append_cases, Contains-append_left, Contains-append_right, Contains-push}
use Rattle.std.proofs.lemmas.Option.{same_Some}
use Rattle.tesla_receiver.proofs.NewKeys.{none_contained}
use Rattle.tesla_state.specs.Releases.{each_after, unless_named, has_name}
use Rattle.tesla_walks.specs.declared.release.Release.{Release}

pub both : (a b : Bool) → (a && b) ≡ true → (a ≡ true) × (b ≡ true)
both true true e = (refl, refl)
both true false e = absurd (cc)
both false b e = absurd (cc)

-- what is found passes
found_here : {A : Type 0} (p : A → Bool) (y : A) (ys : List A) (x : A) (b : Bool) → p y ≡ b → cond b (Some y) (find p ys) ≡ Some x → (find p ys ≡ Some x → p x ≡ true) → p x ≡ true
found_here {A = A} p y ys x true e f rest = subst (λ (z : A). p z ≡ true) (same_Some y x f) e
found_here p y ys x false e f rest = rest f

pub found_passes : {A : Type 0} (p : A → Bool) (xs : List A) (x : A) → find p xs ≡ Some x → p x ≡ true
found_passes p [] x e = absurd (cc)
found_passes p (y ∷ ys) x e = found_here p y ys x (p y) refl e (found_passes p ys x)

-- an element of a list is at some place of it
pub contained : {A : Type 0} (xs : List A) (n : ℕ) (x : A) → slice_get xs n ≡ Some x → Contains xs x
contained [] n x e = absurd (cc)
contained {A = A} (y ∷ ys) zero x e = subst (λ (z : A). Contains (y ∷ ys) z) (same_Some y x e) (Contains-append_left (y ∷ []) ys y (Contains-push [] y))
contained (y ∷ ys) (suc n) x e = Contains-append_right (y ∷ []) ys x (contained ys n x e)

among_if : (b : Bool) (xs : List Release) (r : Release) → Contains (cond b [] xs) r → Contains xs r
among_if true xs r c = absurd (none_contained r c)
among_if false xs r c = c

-- the first of each name are among all
pub among_firsts : (before xs : List Release) (r : Release) → Contains (each_after unless_named before xs) r → Contains xs r
among_firsts before [] r c = c
among_firsts before (x ∷ xs) r c =
    ⊎_elim
    (λ here. Contains-append_left (x ∷ []) xs r (among_if (list_any (has_name x.name) before) (x ∷ []) r here))
    (λ later. Contains-append_right (x ∷ []) xs r (among_firsts (before ++ x ∷ []) xs r later))
    (Contains-append_cases (unless_named before x) (each_after unless_named (before ++ x ∷ []) xs) r c)

-- what one element gave, told those before it
pub record GaveAfter {A B : Type 0} (f : List A → A → List B) (before xs : List A) (y : B) : Type 0 where
  pub n : ℕ
  pub x : A
  pub at : slice_get xs n ≡ Some x
  pub gave : Contains (f (before ++ take n xs) x) y

pub gave_after : {A B : Type 0} (f : List A → A → List B) (before xs : List A) (y : B) → Contains (each_after f before xs) y → GaveAfter f before xs y
gave_after f before [] y c = absurd (none_contained y c)
gave_after {A = A} f before (x ∷ xs) y c =
    ⊎_elim
    (λ here. record { n = 0; x = x; at = refl; gave = subst (λ (ys : List A). Contains (f ys x) y) (sym (append-nil before)) here })
    (λ later. let rest = gave_after f (before ++ x ∷ []) xs y later in
    record { n = suc rest.n; x = rest.x; at = rest.at; gave = subst (λ (ys : List A). Contains (f ys rest.x) y) (append_assoc before (x ∷ []) (take rest.n xs)) rest.gave })
    (Contains-append_cases (f before x) (each_after f (before ++ x ∷ []) xs) y c)

-- what one element gave, told its number
pub record GaveAt {A B : Type 0} (f : ℕ × A → List B) (from : ℕ) (xs : List A) (y : B) : Type 0 where
  pub n : ℕ
  pub x : A
  pub at : slice_get xs n ≡ Some x
  pub gave : Contains (f (from + n, x)) y

pub gave_at : {A B : Type 0} (f : ℕ × A → List B) (from : ℕ) (xs : List A) (y : B) → Contains (flat_map f (enumerate_from from xs)) y → GaveAt f from xs y
gave_at f from [] y c = absurd (none_contained y c)
gave_at {A = A} f from (x ∷ xs) y c =
    ⊎_elim
    (λ here. record { n = 0; x = x; at = refl; gave = subst (λ (k : ℕ). Contains (f (k, x)) y) (omega arith) here })
    (λ later. let rest = gave_at f (from + 1) xs y later in
    record { n = suc rest.n; x = rest.x; at = rest.at; gave = subst (λ (k : ℕ). Contains (f (k, rest.x)) y) (omega arith) rest.gave })
    (Contains-append_cases (f (from, x)) (flat_map f (enumerate_from (from + 1) xs)) y c)
