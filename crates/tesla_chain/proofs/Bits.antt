-- Binary digits.
use Rattle.std.proofs.Common.{◌≡◌, ℕ, zero, suc, ◌+◌, ◌*◌, ◌/◌, ◌^◌, ◌<◌, ◌≤◌, refl, ap, arith}
use Rattle.std.proofs.Math.Nat.{pow-suc}
use Rattle.tesla_chain.specs.Cost.{bits, halvings}

-- to halve more often than the number says changes nothing
enough : (a b n : ℕ) → n ≤ a → n ≤ b → halvings a n ≡ halvings b n
unfolding halvings
enough zero zero n ha hb = refl
enough zero (suc b) zero ha hb = refl
enough zero (suc b) (suc n) ha hb = absurd (omega arith)
enough (suc a) zero zero ha hb = refl
enough (suc a) zero (suc n) ha hb = absurd (omega arith)
enough (suc a) (suc b) zero ha hb = refl
enough (suc a) (suc b) (suc n) ha hb = ap (λ (k : ℕ). 1 + k) (enough a b (suc n / 2) (omega arith) (omega arith))

pub bits_zero : bits 0 ≡ 0
unfolding bits halvings
bits_zero = refl

-- half of a number has one digit less
pub bits_halved : (n : ℕ) → 0 < n → bits n ≡ 1 + bits (n / 2)
unfolding bits halvings
bits_halved zero h = absurd (omega arith)
bits_halved (suc n) h = ap (λ (k : ℕ). 1 + k) (enough n (suc n / 2) (suc n / 2) (omega arith) (omega arith))

-- a number below 2^b has at most b digits
pub bits_most : (b n : ℕ) → n < 2 ^ b → bits n ≤ b
bits_most zero zero h = omega (arith, bits_zero)
bits_most zero (suc n) h = absurd (omega arith)
bits_most (suc b) zero h = omega (arith, bits_zero)
bits_most (suc b) (suc n) h =
    let power : 2 ^ suc b ≡ 2 ^ b * 2 = pow-suc 2 b in
    let half : suc n / 2 < 2 ^ b = omega arith in
    omega (arith, bits_halved (suc n) (omega arith), bits_most b (suc n / 2) half)

below_power : (most n : ℕ) → n ≤ most → n < 2 ^ bits n
below_power most zero h = rw bits_zero (omega arith)
below_power zero (suc n) h = absurd (omega arith)
below_power (suc most) (suc n) h =
    let half = suc n / 2 in
    let digits : bits (suc n) ≡ suc (bits half) = omega (arith, bits_halved (suc n) (omega arith)) in
    let power : 2 ^ suc (bits half) ≡ 2 ^ bits half * 2 = pow-suc 2 (bits half) in
    let below : half < 2 ^ bits half = below_power most half (omega arith) in
    rw digits (omega arith)

-- the digits of a lower number are no more
pub bits_rise : (m n : ℕ) → m ≤ n → bits m ≤ bits n
bits_rise m n h = bits_most (bits n) m (omega (arith, below_power n n (omega arith)))
