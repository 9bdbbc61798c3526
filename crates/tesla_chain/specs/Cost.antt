-- What the keys of a chain cost at most, in evaluations of HMAC.
use Rattle.std.specs.Prelude.{ℕ, zero, suc, ◌+◌, ◌*◌, ◌/◌}

-- how often n can be halved, rounded down, until it is 0, and `most` times at most
unfoldable pub halvings : ℕ → ℕ → ℕ
halvings zero n = 0
halvings (suc most) zero = 0
halvings (suc most) (suc n) = 1 + halvings most (suc n / 2)

-- the number of binary digits
unfoldable pub bits : ℕ → ℕ
bits n = halvings n n

-- the most steps for all keys of a chain of so many, the walk along it at opening included
abbrev pub W : ℕ → ℕ
W last = last * bits last + last
