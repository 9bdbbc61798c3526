-- The cause of what a loop answers, which stands in its last call.
use Rattle.std.proofs.Common.{◌≡◌, ℕ, subst}
use Rattle.tesla_desk.specs.Faults.{HasCause}
use Rattle.tesla_desk.proofs.Counts.{cause_as}

-- no call failed before it
pub cause_since : {failed other : Type 0} (before mid now : ℕ) → mid ≡ before → HasCause mid now failed → (other → failed) → (failed → other) → HasCause before now other
cause_since {other = other} before mid now same cause there back = subst (λ (count : ℕ). HasCause count now other) same (cause_as mid now cause there back)
