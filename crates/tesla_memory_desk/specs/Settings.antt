-- What a desk in memory was told of the objects that it opens.
use Rattle.std.specs.Prelude.{ℕ, min, List, [], ◌∷◌, Option, Some, None}
use Rattle.tesla_memory_desk.specs.Stored.{newest, values_under}
use Rattle.tesla_memory_desk.specs.declared.entries.Named.{Named}

-- the room of each sink and post for which none was set; and rooms, greatest pieces and numbers of failing calls under names, the newest first
pub record NamedSettings : Type 0 where
  pub room : ℕ
  pub rooms : List (Named ℕ)
  pub pieces : List (Named ℕ)
  pub failing : List (Named ℕ)

-- nothing was set
abbrev pub no_settings : ℕ → NamedSettings
no_settings room = record { room = room; rooms = []; pieces = []; failing = [] }

-- with a room for one name
abbrev pub with_room : List ℕ → ℕ → NamedSettings → NamedSettings
with_room name room it = record it { rooms = record { name = name; value = room } ∷ it.rooms }

-- with a greatest piece for one name
abbrev pub with_piece : List ℕ → ℕ → NamedSettings → NamedSettings
with_piece name most it = record it { pieces = record { name = name; value = most } ∷ it.pieces }

-- with one failing call more for one name
abbrev pub with_failing_call : List ℕ → ℕ → NamedSettings → NamedSettings
with_failing_call name call it = record it { failing = record { name = name; value = call } ∷ it.failing }

-- the first, where there is one
abbrev pub value_or : Option ℕ → ℕ → ℕ
value_or None other = other
value_or (Some value) other = value

-- the room of a sink or a post under a name: the newest that was set for it, or else that of all
abbrev pub room_for : NamedSettings → List ℕ → ℕ
room_for it name = value_or (newest it.rooms name) it.room

-- the greatest piece under a name: the newest that was set for it
abbrev pub piece_for : NamedSettings → List ℕ → Option ℕ
piece_for it name = newest it.pieces name

-- the numbers of the failing calls of an object under a name: all that were set for it
abbrev pub failing_for : NamedSettings → List ℕ → List ℕ
failing_for it name = values_under it.failing name

-- the most bytes of this many that a call moves under a greatest piece, if there is one
abbrev pub within_piece : Option ℕ → ℕ → ℕ
within_piece None count = count
within_piece (Some most) count = min count most
