-- What the calls of clocks do to the readings that these tell.
use Rattle.std.specs.Prelude.{◌≡◌, ℕ, zero, suc, ◌+◌, ◌-◌, ◌^◌, ◌≤◌, List, [], ◌∷◌, ◌++◌, length, Option, Some, None}

-- what a clock tells: the readings that are to come, and those that it gave. The last to come is given again and again
pub record Ticking : Type 0 where
  pub ahead : List ℕ
  pub given : List ℕ

-- the reading that is given next
abbrev pub next_reading : List ℕ → ℕ
next_reading [] = 0
next_reading (reading ∷ more) = reading

-- the readings to come after that
abbrev pub later_readings : List ℕ → List ℕ
later_readings [] = []
later_readings (reading ∷ []) = reading ∷ []
later_readings (reading ∷ (next ∷ more)) = next ∷ more

-- the first readings, so many, of a clock that has these to come
abbrev pub readings_from : ℕ → List ℕ → List ℕ
readings_from zero ahead = []
readings_from (suc n) ahead = next_reading ahead ∷ readings_from n (later_readings ahead)

-- the clock after one reading
abbrev pub ticked : Ticking → Ticking
ticked told = record { ahead = later_readings told.ahead; given = told.given ++ next_reading told.ahead ∷ [] }

-- one reading was given. A clock tells it that told before, and it goes on telling for 2^64 - 1 readings
abbrev pub Ticks : Option Ticking → Option Ticking → ℕ → Type 0
Ticks None None reading = Unit {0}
Ticks None (Some after) reading = ⊥
Ticks (Some before) None reading = 2 ^ 64 - 1 ≤ length before.given + 1
Ticks (Some before) (Some after) reading = (after ≡ ticked before) × (reading ≡ next_reading before.ahead)

-- the clock gave these readings, one call after another, and no other
abbrev pub Gives : List ℕ → Option Ticking → Option Ticking → Type 0
Gives [] before after = after ≡ before
Gives (reading ∷ readings) before after = (mid : Option Ticking) × Ticks before mid reading × Gives readings mid after
