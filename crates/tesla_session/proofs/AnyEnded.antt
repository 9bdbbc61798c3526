-- Whether one of some workers ended so, by the first of them.
use Rattle.std.proofs.Common.{◌≡◌, ◌∙◌, ◌<◌, ◌≤◌, ◌-◌, ◌||◌, Bool, true, false, List, [], ◌∷◌, length, take, drop, get_or, ℕ, refl, sym, ap, arith}
use Rattle.std.proofs.Math.Seq.{take-length}
use Rattle.std.specs.List.{list_any}

module _ {A : Type 0} (ends : A → Bool) where
  pub none_ends : (xs : List A) → length xs < 1 → false ≡ list_any ends xs
  none_ends [] none = refl
  none_ends (x ∷ xs) none = absurd (omega arith)

  pub first_ends : (xs : List A) (d : A) → 1 ≤ length xs → ends (get_or xs 0 d) ≡ true → true ≡ list_any ends xs
  first_ends [] d some test = absurd (omega arith)
  first_ends (x ∷ xs) d some test = sym (ap (λ (b : Bool). b || list_any ends xs) test)

  pub others_end : (xs : List A) (d : A) (result : Bool) → 1 ≤ length xs → ends (get_or xs 0 d) ≡ false → result ≡ list_any ends (take (length xs - 1) (drop 1 xs)) → result ≡ list_any ends xs
  others_end [] d result some test is = absurd (omega arith)
  others_end (x ∷ xs) d result some test is =
      let size : length (x ∷ xs) - 1 ≡ length xs = omega arith in
      is ∙ ap (λ (ys : List A). list_any ends ys) (ap (λ (n : ℕ). take n xs) size ∙ take-length xs) ∙ sym (ap (λ (b : Bool). b || list_any ends xs) test)
