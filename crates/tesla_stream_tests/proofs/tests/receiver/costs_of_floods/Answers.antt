use Rattle.std.proofs.Common.{◌≡◌, ℕ, ◌+◌, ◌*◌, List, [], ◌∷◌, length, map, refl, ap, ◌∙◌, arith}
use Rattle.std.specs.List.{sum_by}
use Rattle.std.proofs.lemmas.List.Sums.{sum_by-cons}
use Rattle.std.proofs.Math.Nat.{suc-mul}
use Rattle.tesla_clock.specs.Schedule.{bound_of}
use Rattle.tesla_stream_tests.proofs.tests.receiver.costs_of_floods.Goals as goal

each_same : {A B : Type 0} (f : B → ℕ) (g : A → B) (n : ℕ) (xs : List A) → ((x : A) → f (g x) ≡ n) → sum_by f (map g xs) ≡ length xs * n
each_same f g n [] same = omega arith
each_same f g n (x ∷ xs) same =
    let here = same x in
    let rest = each_same f g n xs same in
    omega (arith, here, rest, sum_by-cons f (g x) (map g xs), suc-mul (length xs) n)

pub returns : goal.returns
unfolding bound_of
returns c = λ key tag counts calls reserved numbers many.
    let none : length numbers * 0 ≡ 0 = omega arith in
    let all : length numbers * 1 ≡ 4096 = omega (arith, many) in (
      ap (λ n. 2 * 0 + 2 * n) (each_same _ _ 0 numbers (λ number. refl) ∙ none),
      ap (λ n. 2 * 1 + 2 * n) (each_same _ _ 1 numbers (λ number. refl) ∙ all),
      ap (λ n. 2 * 1 + 2 * n) (each_same _ _ 1 numbers (λ number. refl) ∙ all),
    )
