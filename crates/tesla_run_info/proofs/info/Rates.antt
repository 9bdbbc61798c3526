-- The word of a rate, where there is one.
use Rattle.std.proofs.Common.{◌≡◌, ◌∙◌, ℕ, Option, Some, None, List, [], ◌∷◌, length, map, refl, sym, ap}
use Rattle.std.specs.Option.{option_map}
use Rattle.tesla_front.specs.Forms.{AreSpelled, NumberIs}
use Rattle.tesla_run_info.specs.info.Arguments.{rate_parts}
use Rattle.tesla_run_info.specs.declared.info.form.Rate.{Rate}

-- the words behind the setup, as they are read: what they spell is found, and nothing else
abbrev pub IsRead : List (List ℕ) → Option (ℕ × Unit {0}) → Type 0
IsRead words found = (n : ℕ × Unit {0}) → AreSpelled (NumberIs 1 1000000 n.0 ∷ []) words → found ≡ Some n

pub some_words : {A B : Type 0} (f : A → B) (xs : List A) → (length xs ≡ 0 → ⊥) → map f xs ≡ [] → ⊥
some_words f [] some e = some refl
some_words f (x ∷ xs) some e = cc

rate_found : (rate : Option ℕ) (words : List (List ℕ)) (found : Option (ℕ × Unit {0})) (number : ℕ) → (words ≡ [] → ⊥) → found ≡ Some (number, tt)
    → IsRead words found → AreSpelled (rate_parts rate) words → Some number ≡ rate
rate_found None words found number some is only spelled = absurd (some spelled)
rate_found (Some n) words found number some is only spelled =
    ap {A = Option (ℕ × Unit {0})} {B = Option ℕ} (λ it. option_map (λ both. both.0) it) (sym is ∙ only (n, tt) spelled)

-- words that spell a number ask for that rate
pub rate_only : (it : Rate) (words : List (List ℕ)) (found : Option (ℕ × Unit {0})) (number : ℕ) → (words ≡ [] → ⊥) → found ≡ Some (number, tt)
    → IsRead words found → AreSpelled (rate_parts it.rate) words → ◌≡◌ {A = Option Rate} (Some (record { rate = Some number })) (Some it)
rate_only it words found number some is only spelled =
    ap {A = Option ℕ} {B = Option Rate} (λ rate. Some (record { rate = rate })) (rate_found it.rate words found number some is only spelled)

-- words that are there and spell none ask for none
pub rate_none : (rate : Option ℕ) (words : List (List ℕ)) (found : Option (ℕ × Unit {0})) → (words ≡ [] → ⊥) → found ≡ None
    → IsRead words found → AreSpelled (rate_parts rate) words → ⊥
rate_none None words found some is only spelled = some spelled
rate_none (Some n) words found some is only spelled = let no : ◌≡◌ {A = Option (ℕ × Unit {0})} None (Some (n, tt)) = sym is ∙ only (n, tt) spelled in cc
