-- A history that has just the calls of some passes is a merge of them.
use Rattle.std.proofs.Common.{◌≡◌, ℕ, zero, suc, ◌+◌, ◌<◌, List, [], ◌∷◌, length, get_or, set, Option, Some, None, refl, sym, ap, ◌∙◌, subst, arith, get_or-set_same, get_or-set_other}
use Rattle.std.specs.List.{sum_by}
use Rattle.std.proofs.lemmas.List.{get_or_past}
use Rattle.std.proofs.lemmas.List.Sums.{sum_by-cons, sum_by-set}
use mathlib.Core.Logic.{dite}
use native.Mathlib.Decide.{ℕ_discrete, dec_lt}
use Rattle.tesla_turn.specs.declared.view.Call.{Call}
use Rattle.tesla_turn.specs.History.{calls_by, calls_of, HasCalls, AllJoined, known_calls, IsMerge}
use Rattle.tesla_turn.proofs.Histories.{calls_here, calls_else}

module _ {E : Type 0} where
  no_calls_past : (passes : List (List E)) (k : ℕ) (x : E) (xs : List E) → get_or passes k [] ≡ x ∷ xs → k < length passes
  no_calls_past passes k x xs e = dite (dec_lt k (length passes)) (λ low. low) (λ high. let past : get_or passes k [] ≡ [] = get_or_past passes k [] (omega arith) in let clash : [] ≡ x ∷ xs = sym past ∙ e in absurd cc)

  pub merge_from_calls : (h : List (Call E)) (passes : List (List E)) → ((k : ℕ) → calls_by k h ≡ get_or passes k []) → IsMerge h passes
  merge_from_calls [] passes known = λ k. sym (known k)
  merge_from_calls (c ∷ h) passes known =
      let rest : List E = calls_by c.by h in
      let here : get_or passes c.by [] ≡ c.entry ∷ rest = sym (known c.by) ∙ calls_here c h c.by refl in
      let low = no_calls_past passes c.by c.entry rest here in (
        rest,
        low,
        here,
        merge_from_calls h (set passes c.by rest)
            (λ k. dite (ℕ_discrete c.by k)
            (λ e. subst (λ (i : ℕ). calls_by i h ≡ get_or (set passes c.by rest) i []) e (sym (get_or-set_same passes c.by rest [] low)))
            (λ ne. sym (calls_else c h k ne) ∙ (known k ∙ sym (get_or-set_other passes c.by k rest [] (λ e. ne (sym e)))))),
      )

  -- a merge is as long as its parts together
  pub merge_length : (h : List (Call E)) (passes : List (List E)) → IsMerge h passes → length h ≡ sum_by length passes
  merge_length [] passes none_left = none_there passes none_left
    where
      none_there : (ps : List (List E)) → ((k : ℕ) → get_or ps k [] ≡ []) → 0 ≡ sum_by length ps
      none_there [] z = refl
      none_there (p ∷ ps) z = let first : length p ≡ 0 = ap length (z 0) in let others : 0 ≡ sum_by length ps = none_there ps (λ k. z (suc k)) in let sum : sum_by length (p ∷ ps) ≡ length p + sum_by length ps = sum_by-cons length p ps in omega arith
  merge_length (c ∷ h) passes m = let less = merge_length h (set passes c.by m.0) m.3 in let one = ap length m.2 in let sums = sum_by-set length passes c.by m.0 [] m.1 in omega arith

  known_at : (passes : List (Option (List E))) → AllJoined passes → (k : ℕ) → k < length passes → calls_of passes k ≡ Some (get_or (known_calls passes) k [])
  known_at [] all k low = absurd (omega arith)
  known_at (None ∷ ps) all k low = absurd all
  known_at (Some xs ∷ ps) all zero low = refl
  known_at (Some xs ∷ ps) all (suc k) low = known_at ps all k (omega arith)

  length-known_calls : (passes : List (Option (List E))) → length (known_calls passes) ≡ length passes
  length-known_calls [] = refl
  length-known_calls (None ∷ ps) = ap suc (length-known_calls ps)
  length-known_calls (Some xs ∷ ps) = ap suc (length-known_calls ps)

  pub merge_from_joined : (h : List (Call E)) (passes : List (Option (List E))) → HasCalls h passes → AllJoined passes → IsMerge h (known_calls passes)
  merge_from_joined h passes has all = merge_from_calls h (known_calls passes)
      (λ k. dite (dec_lt k (length passes)) (λ low. has.0 k (get_or (known_calls passes) k []) (known_at passes all k low))
      (λ high. has.1 k (omega arith) ∙ sym (get_or_past (known_calls passes) k [] (let n = length-known_calls passes in omega arith))))
