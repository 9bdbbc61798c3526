-- Each move keeps the free buffers of a queue balanced.
use Rattle.std.proofs.Common.{◌≡◌, ◌∙◌, ℕ, zero, suc, ◌+◌, List, [], ◌∷◌, ◌++◌, length, set, refl, sym, ap, arith}
use Rattle.std.proofs.lemmas.List.{length-append}
use mathlib.Core.Option.{some, some-ne-none}
use lib.ListN.{get_elem?}
use Rattle.crossbeam_queue.specs.Fifo.{Pushes, Pops, Forks}
use Rattle.tesla_relay.specs.Buffers.{IsBalanced, tally, total}
use Rattle.tesla_relay.specs.declared.buffers.Tally.{Tally}

-- one pass alone changes the whole by what it changes
total_set : (number : Tally → ℕ) (views : List Tally) (port : ℕ) (v w : Tally) → get_elem? views port ≡ some v → total number (set views port w) + number v ≡ total number views + number w
total_set number [] port v w at = absurd (some-ne-none v (sym at))
total_set number (one ∷ more) zero v w at = let same : one ≡ v = cc in omega (arith, ap number same)
total_set number (one ∷ more) (suc port) v w at = omega (arith, total_set number more port v w at)

total_end : (number : Tally → ℕ) (views : List Tally) (w : Tally) → total number (views ++ w ∷ []) ≡ total number views + number w
total_end number [] w = omega arith
total_end number (one ∷ more) w = omega (arith, total_end number more w)

module _ {T : Type 0} where
  pub takes : (port : ℕ) (v : Tally) → Pops {T = T} IsBalanced port v (λ x w. w ≡ tally (suc v.taken) v.given)
  takes port v x items views h at =
      let w : Tally = tally (suc v.taken) v.given in
      let taken : total (λ one. one.taken) (set views port w) + v.taken ≡ total (λ one. one.taken) views + suc v.taken = total_set (λ one. one.taken) views port v w at in
      let given : total (λ one. one.given) (set views port w) + v.given ≡ total (λ one. one.given) views + v.given = total_set (λ one. one.given) views port v w at in
      (w, omega (arith, h, taken, given), refl)

  pub gives : (n port : ℕ) (v : Tally) (x : T) → Pushes IsBalanced n port v x (λ w. w ≡ tally v.taken (suc v.given))
  gives n port v x items views room h at =
      let w : Tally = tally v.taken (suc v.given) in
      let taken : total (λ one. one.taken) (set views port w) + v.taken ≡ total (λ one. one.taken) views + v.taken = total_set (λ one. one.taken) views port v w at in
      let given : total (λ one. one.given) (set views port w) + v.given ≡ total (λ one. one.given) views + suc v.given = total_set (λ one. one.given) views port v w at in
      let size : length (items ++ x ∷ []) ≡ length items + 1 = length-append items (x ∷ []) in
      (w, omega (arith, h, taken, given, size), refl)

  pub forks : (port : ℕ) (v : Tally) → Forks {T = T} IsBalanced port v v (tally 0 0)
  forks port v items views h at =
      let taken = total_set (λ one. one.taken) views port v v at in
      let given = total_set (λ one. one.given) views port v v at in
      let all_taken : total (λ one. one.taken) (set views port v ++ tally 0 0 ∷ []) ≡ total (λ one. one.taken) (set views port v) + 0 = total_end (λ one. one.taken) (set views port v) (tally 0 0) in
      let all_given : total (λ one. one.given) (set views port v ++ tally 0 0 ∷ []) ≡ total (λ one. one.given) (set views port v) + 0 = total_end (λ one. one.given) (set views port v) (tally 0 0) in
      omega (arith, h, taken, given, all_taken, all_given)
