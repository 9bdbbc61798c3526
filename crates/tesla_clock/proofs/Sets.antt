-- Sets of chains as bits.
use Rattle.std.proofs.Common.{◌≡◌, ℕ, zero, suc, ◌+◌, ◌*◌, ◌^◌, ◌<◌, Bool, true, false, inl, inr, ap, ◌∙◌, arith}
use Rattle.std.specs.Prelude.{◌==◌, if◌then◌else◌}
use Rattle.std.specs.Int.{bit_at}
use Rattle.std.proofs.Math.Nat.{pow-suc, sub_self}
use Rattle.std.proofs.lemmas.Bool.{cases_lt}
use Rattle.std.proofs.lemmas.Nat.Bits.{bit_at_cat_low, bit_at_cat_high, bit_at_above}
use Rattle.tesla_clock.specs.Safe.{has_chain, chain_set}

-- the set with chain n or without it
abbrev with_chain : ℕ → ℕ → Bool → ℕ
with_chain s n b = s + (if b then 2 ^ n else 0)

-- such a set has no bit above n
more_small : (s n : ℕ) (b : Bool) → s < 2 ^ n → with_chain s n b < 2 ^ suc n
more_small s n true h = rw (pow-suc 2 n) (omega arith)
more_small s n false h = rw (pow-suc 2 n) (omega arith)

-- a set of chains below n has no higher bit
pub small_set : (test : ℕ → Bool) (n : ℕ) → chain_set test n < 2 ^ n
small_set test zero = omega arith
small_set test (suc n) = more_small (chain_set test n) n (test n) (small_set test n)

-- the added bit as the leading one
behind : (s n : ℕ) → s + 2 ^ n ≡ 1 * 2 ^ n + s
behind s n = omega arith

-- the lower bits are as before
kept : (s n c : ℕ) (b : Bool) → c < n → has_chain (with_chain s n b) c ≡ has_chain s c
kept s n c true h = ap (λ v. v == 1) (ap (λ v. bit_at v c) (behind s n) ∙ bit_at_cat_low 1 n s c h)
kept s n c false h = ap (λ v. has_chain v c) (let e : s + 0 ≡ s = omega arith in e)

-- bit n is whether the chain was added
added : (s n : ℕ) (b : Bool) → s < 2 ^ n → has_chain (with_chain s n b) n ≡ b
added s n true h =
    ap (λ v. v == 1) (ap (λ v. bit_at v n) (behind s n) ∙ bit_at_cat_high 1 n s n h (omega arith) ∙ ap (bit_at 1) (sub_self n))
added s n false h =
    let e : s + 0 ≡ s = omega arith in
    ap (λ v. v == 1) (ap (λ v. bit_at v n) e ∙ bit_at_above s n n h (omega arith))

-- a chain is in the set where it passes
pub set_has : (test : ℕ → Bool) (n c : ℕ) → c < n → has_chain (chain_set test n) c ≡ test c
set_has test zero c h = absurd (omega arith)
set_has test (suc n) c h =
    elim (cases_lt c n) [
      | inl less ↦ kept (chain_set test n) n c (test n) less ∙ set_has test n c less
      | inr least ↦ (let same : c ≡ n = omega arith in rw same (added (chain_set test n) n (test n) (small_set test n)))
    ]
