-- What it costs to go on over many keys: `gap` is their number, and `levels` the number of levels.
use Rattle.std.proofs.Common.{◌≡◌, ℕ, ◌+◌, add-one, ◌-◌, ◌*◌, ◌^◌, ◌<◌, ◌≤◌, inl, inr, ap, arith}
use Rattle.std.proofs.Math.Nat.{add-mul, mul-add, mul-le-mul_left, pow-suc}
use Rattle.std.proofs.lemmas.Bool.{cases_lt}

-- where the highest level is needed, no more than the whole way
pub whole_way : (gap ahead left levels digits extra : ℕ) → gap ≡ ahead - left → left < ahead → ahead < 2 ^ levels → digits ≤ levels → levels ≤ digits → 2 ^ digits ≤ extra + gap → left + 1 ≤ gap * (levels - digits) + extra
whole_way gap ahead left levels digits extra is less within few most both =
    let same : digits ≡ levels = omega arith in
    let power : 2 ^ digits ≡ 2 ^ levels = ap (λ (n : ℕ). 2 ^ n) same in
    omega arith

pub each_filled : (gap ahead left levels digits extra : ℕ) → gap ≡ ahead - left → left < ahead → ahead < 2 ^ levels → digits ≤ levels → gap ≤ extra → 2 ^ digits ≤ extra + gap → left < 2 * gap → left + 1 ≤ gap * (levels - digits) + extra
each_filled gap ahead left levels digits extra is less within few own both near =
    elim (cases_lt digits levels) [
      | inl fewer ↦ (let once : gap * 1 ≤ gap * (levels - digits) = (let some : 1 ≤ levels - digits = omega arith in mul-le-mul_left gap some) in omega arith)
      | inr most ↦ whole_way gap ahead left levels digits extra is less within few most both
    ]

-- one level more
pub each_near : (gap lower levels digits extra : ℕ) → levels ≡ lower + 1 → gap * (lower - digits) + extra ≤ gap * (levels - digits) + extra
each_near gap lower levels digits extra one =
    let more : gap * (lower - digits) ≤ gap * (levels - digits) = (let fewer : lower - digits ≤ levels - digits = omega arith in mul-le-mul_left gap fewer) in
    omega arith

pub each_far : (gap lower levels digits extra : ℕ) → levels ≡ lower + 1 → digits ≤ lower → gap + (gap * (lower - digits) + extra) ≤ gap * (levels - digits) + extra
each_far gap lower levels digits extra one few =
    let more : levels - digits ≡ (lower - digits) + 1 = omega arith in
    rw more (omega (arith, mul-add gap (lower - digits) 1))

-- over the end of a level's span
pub each_crossed : (over rest lower levels digits extra : ℕ) → levels ≡ lower + 1 → digits < lower → over + (rest * (lower - digits) + ((extra + over) + 1)) ≤ ((over + 1) + rest) * (levels - digits) + extra
each_crossed over rest lower levels digits extra one few =
    let n = lower - digits in
    let more : levels - digits ≡ n + 1 = omega arith in
    let once : (over + 1) * 1 ≤ (over + 1) * n = (let some : 1 ≤ n = omega arith in mul-le-mul_left (over + 1) some) in
    rw more (omega (arith, mul-add ((over + 1) + rest) n 1, add-mul (over + 1) rest n))

pub each_over : (gap over rest left span lower levels digits extra old mid new : ℕ) → gap ≡ (over + 1) + rest → levels ≡ lower + 1 → span ≡ 2 ^ lower → mid ≡ old + over → 2 * new ≤ 2 * mid + span → 2 * gap ≤ left → left < span
    → ((digits extra : ℕ) → digits ≤ lower → rest < 2 ^ digits → rest ≤ extra → 2 ^ digits ≤ extra + rest → new ≤ mid + (rest * (lower - digits) + extra))
    → digits ≤ levels → gap < 2 ^ digits → gap ≤ extra → 2 ^ digits ≤ extra + gap → new ≤ old + (gap * (levels - digits) + extra)
each_over gap over rest left span lower levels digits extra old mid new is one spans walked half small low each few fits own both =
    elim (cases_lt digits lower) [
      | inl less ↦
          let deeper = each digits ((extra + over) + 1) (omega arith) (omega arith) (omega arith) (omega arith) in
          let same : gap * (levels - digits) ≡ ((over + 1) + rest) * (levels - digits) = ap (λ (n : ℕ). n * (levels - digits)) is in
          omega (arith, deeper, same, each_crossed over rest lower levels digits extra one less)
      | inr above ↦ elim (cases_lt digits levels) [
        | inl once ↦
            let last : digits ≡ lower = omega arith in
            let power : 2 ^ digits ≡ 2 ^ lower = ap (λ (n : ℕ). 2 ^ n) last in
            let single : levels - digits ≡ 1 = omega arith in
            rw single (omega arith)
        | inr none ↦
            let last : digits ≡ lower + 1 = omega arith in
            let power : 2 ^ digits ≡ 2 ^ (lower + 1) = ap (λ (n : ℕ). 2 ^ n) last in
            let double : 2 ^ (lower + 1) ≡ 2 * 2 ^ lower = rw add-one (omega (arith, pow-suc 2 lower)) in
            let nothing : levels - digits ≡ 0 = omega arith in
            rw nothing (omega arith)
      ]
    ]
