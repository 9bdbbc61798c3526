-- Whether a text is among others.
use Rattle.std.proofs.Common.{◌≡◌, true, false, List, ℕ, [], ◌∷◌, inl, inr, ◌⊎◌, sym}
use denote.Ref.{Bor}
use Rattle.std.specs.List.{list_any}
use Rattle.std.specs.Str.{bytes_eq}
use Rattle.std.proofs.lemmas.Bool.{both_ways, or_parts, or_cases}
use Rattle.std.proofs.lemmas.Slice.Eq.{bytes_eq-Decides}
use Rattle.tesla_front.specs.Names.{IsNoneOf}
use Rattle.tesla_front.specs.Parts.{texts_of}

-- a text that isn't found among others is none of them
pub none_of : (texts : List (Bor (List ℕ))) (name : List ℕ) → list_any (λ text. bytes_eq text.now name) texts ≡ false → IsNoneOf name (texts_of texts)
none_of [] name absent = tt
none_of (text ∷ texts) name absent =
    let parts = or_parts (bytes_eq text.now name) (list_any (λ text. bytes_eq text.now name) texts) absent in
    (λ same. both_ways (bytes_eq text.now name) parts.0 ((bytes_eq-Decides text.now name).1 (sym same)), none_of texts name parts.1)

-- a text that is found among others is one of them
pub one_of : (texts : List (Bor (List ℕ))) (name : List ℕ) → list_any (λ text. bytes_eq text.now name) texts ≡ true → IsNoneOf name (texts_of texts) → ⊥
one_of [] name present none = absurd cc
one_of (text ∷ texts) name present none = by (or_cases (bytes_eq text.now name) (list_any (λ text. bytes_eq text.now name) texts) present) (λ later. one_of texts name later none.1) where
  by : (bytes_eq text.now name ≡ true) ⊎ (list_any (λ text. bytes_eq text.now name) texts ≡ true) → (list_any (λ text. bytes_eq text.now name) texts ≡ true → ⊥) → ⊥
  by (inl here) others = none.0 (sym ((bytes_eq-Decides text.now name).0 here))
  by (inr later) others = others later
