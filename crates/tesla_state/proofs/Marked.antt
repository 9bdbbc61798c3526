-- Lists after a map or a filter: what stands in them, and what is found.
use Rattle.std.proofs.Common.{◌≡◌, Bool, true, false, cond, ◌&&◌, ◌||◌, List, [], ◌∷◌, map, Option, Some, refl, sym, ap, ⊎_elim, ◌∙◌}
use Rattle.std.specs.Prelude.{find, option_map}
use Rattle.std.specs.List.{list_any, list_all, filter}
use Rattle.std.proofs.lemmas.Bool.{cases_Bool, and_parts, or_cases, or_left, or_right}

pub any_mapped : {A B : Type 0} (f : B → Bool) (g : A → Bool) (m : A → B) → ((x : A) → f (m x) ≡ g x) → (xs : List A) → list_any f (map m xs) ≡ list_any g xs
any_mapped f g m same [] = refl
any_mapped f g m same (x ∷ xs) = ap (λ t. t || list_any f (map m xs)) (same x) ∙ ap (λ t. g x || t) (any_mapped f g m same xs)

pub all_mapped : {A B : Type 0} (f : B → Bool) (g : A → Bool) (m : A → B) → ((x : A) → f (m x) ≡ g x) → (xs : List A) → list_all f (map m xs) ≡ list_all g xs
all_mapped f g m same [] = refl
all_mapped f g m same (x ∷ xs) = ap (λ t. t && list_all f (map m xs)) (same x) ∙ ap (λ t. g x && t) (all_mapped f g m same xs)

pub map_mapped : {A B C : Type 0} (f : B → C) (m : A → B) (g : A → C) → ((x : A) → f (m x) ≡ g x) → (xs : List A) → map f (map m xs) ≡ map g xs
map_mapped f m g same [] = refl
map_mapped f m g same (x ∷ xs) = ap (λ y. y ∷ map f (map m xs)) (same x) ∙ ap (λ ys. g x ∷ ys) (map_mapped f m g same xs)

find_step : {A B : Type 0} (m : A → B) (b : Bool) (x : A) (o : Option A) → cond b (Some (m x)) (option_map m o) ≡ option_map m (cond b (Some x) o)
find_step m true x o = refl
find_step m false x o = refl

pub find_mapped : {A B : Type 0} (f : B → Bool) (m : A → B) (xs : List A) → find f (map m xs) ≡ option_map m (find (λ x. f (m x)) xs)
find_mapped f m [] = refl
find_mapped f m (x ∷ xs) = ap (λ o. cond (f (m x)) (Some (m x)) o) (find_mapped f m xs) ∙ find_step m (f (m x)) x (find (λ y. f (m y)) xs)

-- a test that fails at what a filter leaves out finds the same in what it keeps
pub any_filtered : {A : Type 0} (f keep : A → Bool) → ((x : A) → keep x ≡ false → f x ≡ false) → (xs : List A) → list_any f (filter keep xs) ≡ list_any f xs
any_filtered f keep none [] = refl
any_filtered f keep none (x ∷ xs) =
    ⊎_elim
    (λ e. ap (λ t. list_any f (cond t (x ∷ filter keep xs) (filter keep xs))) e ∙ ap (λ t. f x || t) (any_filtered f keep none xs))
    (λ e. ap (λ t. list_any f (cond t (x ∷ filter keep xs) (filter keep xs))) e ∙ any_filtered f keep none xs ∙ sym (ap (λ t. t || list_any f xs) (none x e)))
    (cases_Bool (keep x))

pub find_filtered : {A : Type 0} (f keep : A → Bool) → ((x : A) → keep x ≡ false → f x ≡ false) → (xs : List A) → find f (filter keep xs) ≡ find f xs
find_filtered f keep none [] = refl
find_filtered f keep none (x ∷ xs) =
    ⊎_elim
    (λ e. ap (λ t. find f (cond t (x ∷ filter keep xs) (filter keep xs))) e ∙ ap (λ o. cond (f x) (Some x) o) (find_filtered f keep none xs))
    (λ e. ap (λ t. find f (cond t (x ∷ filter keep xs) (filter keep xs))) e ∙ find_filtered f keep none xs ∙ sym (ap (λ t. cond t (Some x) (find f xs)) (none x e)))
    (cases_Bool (keep x))

-- what one passes where all pass another
pub any_with_all : {A : Type 0} (f g h : A → Bool) → ((x : A) → f x ≡ true → g x ≡ true → h x ≡ true) → (xs : List A) → list_any f xs ≡ true → list_all g xs ≡ true → list_any h xs ≡ true
any_with_all f g h gives [] a b = absurd (cc)
any_with_all f g h gives (x ∷ xs) a b =
    let parts = and_parts (g x) (list_all g xs) b in
    ⊎_elim
    (λ e. or_left (h x) (list_any h xs) (gives x e parts.0))
    (λ e. or_right (h x) (list_any h xs) (any_with_all f g h gives xs e parts.1))
    (or_cases (f x) (list_any f xs) a)

pub any_weaker : {A : Type 0} (f h : A → Bool) → ((x : A) → f x ≡ true → h x ≡ true) → (xs : List A) → list_any f xs ≡ true → list_any h xs ≡ true
any_weaker f h gives [] a = absurd (cc)
any_weaker f h gives (x ∷ xs) a =
    ⊎_elim (λ e. or_left (h x) (list_any h xs) (gives x e)) (λ e. or_right (h x) (list_any h xs) (any_weaker f h gives xs e)) (or_cases (f x) (list_any f xs) a)
