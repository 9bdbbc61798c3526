-- Which readings the clock gave in a run that sends to posts.
use Rattle.std.specs.Prelude.{◌≡◌, ℕ, ◌-◌, ◌^◌, ◌<◌, List, length, Option, Some}
use Rattle.tesla_desk.specs.Clocks.{readings_from}

-- these are the first readings of the next clock, in order, where the desk tells readings; it goes on telling for 2^64 - 1 of them
abbrev pub ReadWhere : List ℕ → Option (ℕ → List ℕ) → Option ℕ → Type 0
ReadWhere readings (Some all) (Some made) = length readings < 2 ^ 64 - 1 → readings ≡ readings_from (length readings) (all made)
ReadWhere readings _ _ = Unit {0}
