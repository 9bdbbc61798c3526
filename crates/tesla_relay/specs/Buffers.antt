-- The free buffers of a queue: as many as were given and not taken.
use Rattle.std.specs.Prelude.{◌≡◌, ℕ, ◌+◌, List, [], ◌∷◌, length}
use Rattle.tesla_relay.specs.declared.buffers.Tally.{Tally}

-- so many buffers were taken by one pass, and given
abbrev pub tally : ℕ → ℕ → Tally
tally taken given = record { taken = taken; given = given }

-- the numbers of all passes together
abbrev pub total : (Tally → ℕ) → List Tally → ℕ
total number [] = 0
total number (one ∷ more) = number one + total number more

-- the buffers that are free, and those that were taken, are those that were given
abbrev pub IsBalanced : {T : Type 0} → List T → List Tally → Type 0
IsBalanced items views = length items + total (λ one. one.taken) views ≡ total (λ one. one.given) views
