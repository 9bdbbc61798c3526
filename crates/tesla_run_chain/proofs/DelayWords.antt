-- The words of delays.
use Rattle.std.proofs.Common.{◌≡◌, ◌∙◌, ℕ, ◌+◌, ◌-◌, ◌≤◌, List, [], ◌∷◌, length, take, drop, get_or, map, decimal, refl, ap, arith}
use Rattle.std.proofs.lemmas.List.{take_rest}
use Rattle.tesla_front.specs.Words.{IsNumberWithin}
use Rattle.tesla_sender_setup.specs.Delays.{RiseAbove}

-- the first of some words spells the first delay, and the others the others
pub record Begins {A : Type 0} (f : A → List ℕ) (words : List A) (first : A) (before : ℕ) (more : List ℕ) : Type 0 where
  pub delay : ℕ
  pub rest : List ℕ
  pub whole : more ≡ delay ∷ rest
  pub within : IsNumberWithin (before + 1) 4096 (f first) delay
  pub others : map f (take (length words - 1) (drop 1 words)) ≡ map decimal rest
  pub rise : RiseAbove delay rest

pub begins : {A : Type 0} (f : A → List ℕ) (words : List A) (first : A) (before : ℕ) (more : List ℕ) → 1 ≤ length words → first ≡ get_or words 0 first → map f words ≡ map decimal more → RiseAbove before more → Begins f words first before more
begins f [] first before more some is spelled rise = absurd (omega arith)
begins f (word ∷ words) first before [] some is spelled rise = absurd cc
begins f (word ∷ words) first before (delay ∷ rest) some is spelled rise = record {
  delay = delay;
  rest = rest;
  whole = refl;
  within = record { spelled = cc; least = omega (arith, rise.0); limit = rise.1 };
  others = ap (map f) (take_rest (word ∷ words) 1) ∙ (let same : map f words ≡ map decimal rest = cc in same);
  rise = rise.2;
}
