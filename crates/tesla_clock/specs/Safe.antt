-- The security condition: which chains of a packet are safe on arrival (RFC 4082, section 3.5). They are a set of bits.
use Rattle.std.specs.Prelude.{ℕ, zero, suc, ◌+◌, ◌^◌, ◌/◌, ◌%◌, Bool, ◌&&◌, List, length, slice_index, nat_lt, ◌==◌, if◌then◌else◌}

-- bit c of the set is set
abbrev pub has_chain : ℕ → ℕ → Bool
has_chain set chain = (set / 2 ^ chain) % 2 == 1

-- the set of the chains below n that pass
abbrev pub chain_set : (ℕ → Bool) → ℕ → ℕ
chain_set test zero = 0
chain_set test (suc n) = chain_set test n + (if test n then 2 ^ n else 0)

-- by the bound the chain's key of the interval can't have been disclosed, and none that reaches it was taken
abbrev pub is_safe : ℕ → ℕ → ℕ → ℕ → Bool
is_safe bound interval delay newest = nat_lt bound (interval + delay) && nat_lt newest interval

-- the set of the chains that are safe
abbrev pub safe_set : ℕ → ℕ → List ℕ → List ℕ → ℕ
safe_set bound interval delays newest =
    chain_set (λ c. is_safe bound interval (slice_index delays c) (slice_index newest c)) (length delays)
