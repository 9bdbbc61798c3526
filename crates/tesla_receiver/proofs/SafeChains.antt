-- The safe chains by the delays and newest indexes of all chains.
use Rattle.std.proofs.Common.{◌≡◌, ℕ, zero, suc, ◌+◌, ◌^◌, ◌<◌, Bool, refl, ap, ◌∙◌, arith}
use Rattle.std.specs.Prelude.{if◌then◌else◌}
use Rattle.tesla_clock.specs.Safe.{chain_set}

pub set_same : (p q : ℕ → Bool) (n : ℕ) → ((c : ℕ) → c < n → p c ≡ q c) → chain_set p n ≡ chain_set q n
set_same p q zero same = refl
set_same p q (suc n) same =
    ap (λ s. s + (if p n then 2 ^ n else 0)) (set_same p q n (λ c h. same c (omega arith)))
    ∙ ap (λ b. chain_set q n + (if b then 2 ^ n else 0)) (same n (omega arith))
