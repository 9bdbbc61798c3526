-- Binary digits and powers of two.
use Rattle.std.proofs.Common.{◌≡◌, ℕ, zero, suc, ◌+◌, ◌-◌, ◌*◌, ◌/◌, ◌^◌, ◌<◌, ◌≤◌, inl, inr, sym, ◌∙◌, ap, arith}
use Rattle.std.proofs.Math.Nat.{add-mul, mul-add, mul-le-mul_left, pow-suc}
use Rattle.std.proofs.Math.Pow.{pow_mono}
use Rattle.std.proofs.lemmas.Bool.{cases_lt}
use Rattle.std.proofs.lemmas.Nat.{pow_pos}
use Rattle.tesla_chain.specs.Cost.{bits}
use Rattle.tesla_chain.proofs.Bits.{bits_halved, bits_most, bits_rise, bits_zero}

-- the digits of a power of two
bits_power : (k : ℕ) → bits (2 ^ k) ≡ k + 1
bits_power zero = omega (arith, bits_halved 1 (omega arith), bits_zero)
bits_power (suc k) =
    let power : 2 ^ suc k ≡ 2 ^ k * 2 = pow-suc 2 k in
    let half : 2 ^ suc k / 2 ≡ 2 ^ k = omega arith in
    let digits : bits (2 ^ suc k / 2) ≡ bits (2 ^ k) = ap bits half in
    omega (arith, bits_halved (2 ^ suc k) (pow_pos (suc k)), digits, bits_power k)

-- there are no more levels than the length of the chain has digits
pub few_levels : (depth last : ℕ) → 2 ^ depth ≤ 2 * last - 1 → depth ≤ bits last
few_levels zero last h = omega arith
few_levels (suc k) last h =
    let power : 2 ^ suc k ≡ 2 ^ k * 2 = pow-suc 2 k in
    omega (arith, bits_power k, bits_rise (2 ^ k) last (omega arith))

pub short_levels : (depth last : ℕ) → 2 ^ depth ≤ 2 * last - 1 → last ≤ 2 ^ 20 → depth ≤ 20
short_levels depth last h most = elim (cases_lt 20 depth) [
  | inl more ↦ absurd (let deep : 21 ≤ depth = omega arith in let power : 2 ^ 21 ≤ 2 ^ depth = pow_mono {i = 21} {j = depth} deep in omega arith)
  | inr few ↦ few
]

-- a number is below the power of its digits, and at least half of it
digits_hold : (most n : ℕ) → n ≤ most → (n < 2 ^ bits n) × (0 < n → 2 ^ bits n ≤ 2 * n)
digits_hold most zero h = rw bits_zero (omega arith, λ some. absurd (omega arith))
digits_hold zero (suc n) h = absurd (omega arith)
digits_hold (suc most) (suc n) h =
    let half = suc n / 2 in
    let digits : bits (suc n) ≡ suc (bits half) = omega (arith, bits_halved (suc n) (omega arith)) in
    let power : 2 ^ suc (bits half) ≡ 2 ^ bits half * 2 = pow-suc 2 (bits half) in
    let below = digits_hold most half (omega arith) in
    let low : 2 ^ bits half ≤ suc n = elim (cases_lt 0 half) [
      | inl some ↦ omega (arith, below.1 some)
      | inr none ↦
          let zeros : bits half ≡ 0 = (let empty : half ≡ 0 = omega arith in omega (arith, ap bits empty, bits_zero)) in
          rw zeros (omega arith)
    ] in
    rw digits (omega (arith, below.0), λ some. omega arith)

pub below_digits : (n : ℕ) → n < 2 ^ bits n
below_digits n = (digits_hold n n (omega arith)).0

pub half_digits : (n : ℕ) → 0 < n → 2 ^ bits n ≤ n + n
half_digits n some = omega (arith, (digits_hold n n (omega arith)).1 some)

-- what it costs to go on over `gap` keys, by the chain's digits in place of the number of levels
pub by_digits : (gap levels last : ℕ) → 0 < gap → gap ≤ last → levels ≤ bits last → gap * (levels - bits gap) + gap ≤ gap * ((bits last - bits gap) + 1)
by_digits gap levels last some within few =
    let fewer : levels - bits gap ≤ bits last - bits gap = omega arith in
    let most : gap * (levels - bits gap) ≤ gap * (bits last - bits gap) = mul-le-mul_left gap fewer in
    omega (arith, mul-add gap (bits last - bits gap) 1)

-- and by each key on its own
pub by_keys : (gap last : ℕ) → 0 < gap → gap ≤ last → gap * ((bits last - bits gap) + 1) ≤ gap * bits last
by_keys gap last some within =
    let own : 1 ≤ bits gap = omega (arith, bits_halved gap some) in
    let fewer : (bits last - bits gap) + 1 ≤ bits last = omega (arith, bits_rise gap last within) in
    mul-le-mul_left gap fewer

pub call_cost : (gap ahead left levels last old new : ℕ) → gap ≡ ahead - left → left < ahead → ahead < 2 ^ levels → gap ≤ last → levels ≤ bits last
    → ((digits extra : ℕ) → digits ≤ levels → ahead - left < 2 ^ digits → ahead - left ≤ extra → 2 ^ digits ≤ extra + (ahead - left) → new ≤ old + ((ahead - left) * (levels - digits) + extra))
    → new ≤ old + gap * ((bits last - bits gap) + 1)
call_cost gap ahead left levels last old new is less within inside few each =
    let some : 0 < gap = omega arith in
    let digits : bits gap ≤ levels = bits_most levels gap (omega arith) in
    let same : (ahead - left) * (levels - bits gap) ≡ gap * (levels - bits gap) = ap (λ (n : ℕ). n * (levels - bits gap)) (sym is) in
    let cost = each (bits gap) gap digits (omega (arith, below_digits gap)) (omega arith) (omega (arith, half_digits gap some)) in
    omega (arith, cost, same, by_digits gap levels last some inside few)

pub left_after : (given index last old new : ℕ) → given < index → index ≤ last → new ≤ old + (index - given) * ((bits last - bits (index - given)) + 1) → new + (last - index) * bits last ≤ old + (last - given) * bits last
left_after given index last old new after within cost =
    let gap = index - given in
    let parts : last - given ≡ gap + (last - index) = omega arith in
    let sum : (last - given) * bits last ≡ gap * bits last + (last - index) * bits last = ap (λ (n : ℕ). n * bits last) parts ∙ add-mul gap (last - index) (bits last) in
    omega (arith, cost, sum, by_keys gap last (omega arith) (omega arith))
