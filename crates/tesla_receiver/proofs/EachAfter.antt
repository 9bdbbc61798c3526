-- What is gathered along a list, told of what stands before, grows at its end.
use Rattle.std.proofs.Common.{◌≡◌, Bool, true, List, [], ◌∷◌, ◌++◌, refl, sym, ap, ◌∙◌, append_assoc}
use Rattle.std.specs.List.{list_all}
use Rattle.std.proofs.lemmas.List.{append-nil}
use Rattle.tesla_base.proofs.Lists.{list_all_both}
use Rattle.tesla_state.specs.Releases.{each_after}

pub each_after-append : {A B : Type 0} (f : List A → A → List B) (before xs ys : List A) → each_after f before (xs ++ ys) ≡ each_after f before xs ++ each_after f (before ++ xs) ys
each_after-append f before [] ys = ap (λ b. each_after f b ys) (sym (append-nil before))
each_after-append f before (x ∷ xs) ys =
    ap (λ r. f before x ++ r) (each_after-append f (before ++ x ∷ []) xs ys ∙ ap (λ b. each_after f (before ++ x ∷ []) xs ++ each_after f b ys) (append_assoc before (x ∷ []) xs))
    ∙ sym (append_assoc (f before x) (each_after f (before ++ x ∷ []) xs) (each_after f (before ++ x ∷ xs) ys))

-- one more at the end
pub each_after_more : {A B : Type 0} (f : List A → A → List B) (xs : List A) (x : A) → each_after f [] (xs ++ x ∷ []) ≡ each_after f [] xs ++ f xs x
each_after_more f xs x = each_after-append f [] xs (x ∷ []) ∙ ap (λ r. each_after f [] xs ++ r) (append-nil (f xs x))

-- all that is gathered along a list passes, where all that each element gives does
pub all_each_after : {A B : Type 0} (q : B → Bool) (f : List A → A → List B) (before xs : List A) → ((prefix : List A) (x : A) (rest : List A) → xs ≡ prefix ++ x ∷ rest → list_all q (f (before ++ prefix) x) ≡ true) → list_all q (each_after f before xs) ≡ true
all_each_after q f before [] h = refl
all_each_after q f before (x ∷ xs) h =
    let here : list_all q (f before x) ≡ true = ap (λ b. list_all q (f b x)) (sym (append-nil before)) ∙ h [] x xs refl in
    let later = all_each_after q f (before ++ x ∷ []) xs (λ prefix y rest e. ap (λ b. list_all q (f b y)) (append_assoc before (x ∷ []) prefix) ∙ h (x ∷ prefix) y rest (ap (λ ys. x ∷ ys) e)) in
    list_all_both q (f before x) (each_after f (before ++ x ∷ []) xs) here later
