-- When a stream is over.
use Rattle.std.proofs.Common.{◌≡◌, ◌∙◌, ℕ, ◌+◌, ◌-◌, ◌*◌, ◌/◌, ◌<◌, ◌≤◌, Bool, false, List, [], ◌∷◌, refl, sym, ap, inl, inr, arith}
use Rattle.std.specs.Prelude.{◌&&◌, min, nat_le, nat_lt}
use Rattle.std.specs.List.{list_all}
use Rattle.std.proofs.Math.Nat.{le-div_iff_mul-le, le-mul_of_pos_right}
use Rattle.std.proofs.lemmas.Bool.{cases_Bool, cases_lt, le-leb, le-ltb, leb-false, leb-true, lt-leb, lt-ltb}
use Rattle.tesla_base.specs.declared.names.Key.{Key}
use Rattle.tesla_clock.specs.Schedule.{IsSchedule, Times}
use Rattle.tesla_sender.specs.Made.{Chain, Stream, chains_from, chains_of, interval_at, tells_all}
use Rattle.tesla_feed.specs.Fed.{has_ended}

-- tests that hold together
same_tests : (a b c d : ℕ) → (a < b → c ≤ d) → (c ≤ d → a < b) → nat_lt a b ≡ nat_le c d
same_tests a b c d forth back = elim (cases_lt a b) [
  | inl less ↦ lt-ltb a b less ∙ sym (le-leb c d (forth less))
  | inr more ↦ le-ltb a b more ∙ sym (elim (cases_lt d c) as (λ _. nat_le c d ≡ false) [
    | inl above ↦ lt-leb c d above
    | inr within ↦ absurd (let less : a < b = back within in omega arith)
  ])
]

same_ends : (a b c d : ℕ) → (a ≤ b → c ≤ d) → (c ≤ d → a ≤ b) → nat_le a b ≡ nat_le c d
same_ends a b c d forth back = elim (cases_lt b a) [
  | inl above ↦ lt-leb a b above ∙ sym (elim (cases_lt d c) as (λ _. nat_le c d ≡ false) [
    | inl more ↦ lt-leb c d more
    | inr within ↦ absurd (let other : a ≤ b = back within in omega arith)
  ])
  | inr within ↦ le-leb a b within ∙ sym (le-leb c d (forth within))
]

-- so many intervals have passed before a reading, told by the interval of the microsecond before it
passed_is : (times : Times) (reading many : ℕ) → 1 ≤ many → 1 ≤ times.length → nat_lt (times.start + many * times.length) reading ≡ nat_le many (interval_at times (reading - 1))
passed_is times reading many some long =
    let time = reading - 1 - times.start in
    let least : many ≤ many * times.length = le-mul_of_pos_right many (omega arith) in
    let divides = le-div_iff_mul-le {k = times.length} {x = many} {y = time} (omega arith) in
    elim (cases_Bool (nat_le times.start (reading - 1))) as (λ _. nat_lt (times.start + many * times.length) reading ≡ nat_le many (interval_at times (reading - 1))) [
      | inl begun ↦ (
          let from : times.start ≤ reading - 1 = leb-true _ _ begun in
          rw begun (same_tests (times.start + many * times.length) reading many (time / times.length) (λ less. divides.1 (omega arith)) (λ within. (let fits : many * times.length ≤ time = divides.0 within in omega arith))))
      | inr before ↦ (
          let later : reading - 1 < times.start = leb-false _ _ before in
          rw before (le-ltb (times.start + many * times.length) reading (omega arith) ∙ sym (lt-leb many 0 (omega arith))))
    ]

-- on one chain: its last key was due 65 intervals before
chain_ended : (times : Times) (opening delay : ℕ) → 1 ≤ times.last → 1 ≤ times.length
    → nat_lt (times.start + (times.last + 1 + delay + 64) * times.length) opening ≡ nat_le times.last (min (interval_at times (opening - 1) - 65 - delay) times.last)
chain_ended times opening delay some long =
    let many = times.last + 1 + delay + 64 in
    let interval = interval_at times (opening - 1) in
    passed_is times opening many (omega arith) long ∙ same_ends many interval times.last (min (interval - 65 - delay) times.last) (λ within. omega arith) (λ within. omega arith)

-- on all
chains_ended : (times : Times) (opening number : ℕ) (rows : _) (seeds : List Key) → 1 ≤ times.last → 1 ≤ times.length
    → list_all (λ chain. nat_lt (times.start + (times.last + 1 + chain.row.delay + 64) * times.length) opening) (chains_from times.last number rows seeds)
    ≡ tells_all times.last (interval_at times (opening - 1) - 65) (chains_from times.last number rows seeds)
chains_ended times opening number [] seeds some long = refl
chains_ended times opening number (row ∷ rows) [] some long = refl
chains_ended times opening number (row ∷ rows) (seed ∷ seeds) some long =
    let P : Chain → Bool = λ chain. nat_lt (times.start + (times.last + 1 + chain.row.delay + 64) * times.length) opening in
    let told = nat_le times.last (min (interval_at times (opening - 1) - 65 - row.delay) times.last) in
    ap (λ (b : Bool). b && list_all P (chains_from times.last (number + 1) rows seeds)) (chain_ended times opening row.delay some long)
    ∙ ap (λ (b : Bool). told && b) (chains_ended times opening (number + 1) rows seeds some long)

-- a stream is over where its last keys were due 65 intervals before
pub ended_is : (stream : Stream) (opening : ℕ) → IsSchedule stream.setup.times → has_ended stream opening ≡ tells_all stream.setup.times.last (interval_at stream.setup.times (opening - 1) - 65) (chains_of stream)
ended_is stream opening limits = chains_ended stream.setup.times opening 0 stream.setup.rows stream.seeds limits.first (omega (arith, limits.shortest))
