-- Places of a list.
use Rattle.std.proofs.Common.{◌≢◌, ℕ, ◌+◌, ◌<◌, List, length, length-set, sym, subst, arith}
use Rattle.std.specs.List.{AllWithin}
use Rattle.std.proofs.Math.ListN.{set}
use Rattle.std.proofs.lemmas.List.{get_or-set_other}

-- the elements behind one that is written stay as they are
pub after_set : {A : Type 0} (P : A → Type 0) (xs : List A) (i : ℕ) (y : A) → AllWithin P xs i (length xs) → AllWithin P (set xs i y) (i + 1) (length (set xs i y))
after_set P xs i y all k d behind within =
    let other : k ≢ i = λ e. absurd (omega arith) in
    let inside : k < length xs = omega (arith, length-set xs i y) in
    subst P (sym (get_or-set_other xs i k y d other)) (all k d (omega arith) inside)
