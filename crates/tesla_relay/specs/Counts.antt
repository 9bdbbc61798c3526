-- How many datagrams a post sent.
use Rattle.std.specs.Prelude.{◌≡◌, ℕ, ◌-◌, ◌^◌, ◌<◌, min, Bool, true, false, List, length}

-- a number as a counter of 64 bits tells it, which stands still at its end
abbrev pub counted : ℕ → ℕ
counted n = min n (2 ^ 64 - 1)

-- so many of these datagrams were sent by a post, told whether it failed: all of them, or fewer
abbrev pub IsSentCount : List (List ℕ) → (failed : Bool) → ℕ → Type 0
IsSentCount datagrams false sends = sends ≡ length datagrams
IsSentCount datagrams true sends = sends < length datagrams
