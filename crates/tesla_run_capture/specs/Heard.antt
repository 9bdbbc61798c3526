-- What was heard of a link, and its capture.
use Rattle.std.specs.Prelude.{◌≡◌, ℕ, ◌+◌, ◌-◌, ◌<◌, ◌≤◌, List, [], ◌∷◌, ◌++◌, length, map, flat_map, Option, Some}
use Rattle.tesla_capture.specs.Capture.{Record, Arrives, Takes, IsRecord, capture_text, record_text, limit}
use Rattle.tesla_desk.specs.Clocks.{readings_from}
use Rattle.tesla_desk.specs.Outside.{AppendsPrefix}

-- a datagram that left the link, with the reading of the clock that was taken right after
pub record Heard : Type 0 where
  pub reading : ℕ
  pub bytes : List ℕ

abbrev pub reading_of : Heard → ℕ
reading_of one = one.reading

abbrev pub bytes_of : Heard → List ℕ
bytes_of one = one.bytes

-- the limits of its fields
abbrev pub IsHeard : Heard → Type 0
IsHeard one = IsRecord (Arrives one.reading one.bytes)

-- its records: an arrival, and a take behind it
abbrev pub records_in : Heard → List Record
records_in one = Arrives one.reading one.bytes ∷ Takes ∷ []

-- the records of what was heard, in order
abbrev pub records_of : List Heard → List Record
records_of heard = flat_map records_in heard

-- the capture of what was heard
abbrev pub text_of : List Heard → List ℕ
text_of heard = capture_text (records_of heard)

-- the bytes of the records of a datagram
abbrev pub piece_of : Heard → List ℕ
piece_of one = record_text (Arrives one.reading one.bytes) ++ record_text Takes

-- the capture but for its head
abbrev pub pieces_of : List Heard → List ℕ
pieces_of heard = flat_map piece_of heard

-- how many bytes the records of a datagram have at most
abbrev pub longest : ℕ
longest = 2060

-- a capture of so many bytes may have no room for another datagram
abbrev pub IsFull : ℕ → Type 0
IsFull size = limit - longest < size

-- how many bytes are held back at most: those that are gathered, and the records of a datagram
abbrev pub held_most : ℕ
held_most = 8192 + longest

-- a prefix of a text was written, but for so many bytes at most
pub record BreaksOff (text : List ℕ) (before now : Option (List ℕ)) : Type 0 where
  pub prefix : AppendsPrefix before now text
  pub few : length text ≤ prefix.0 + held_most

-- what was heard has, in order, the first readings of the next clock, where the desk tells readings
abbrev pub ReadWhere : List Heard → Option (ℕ → List ℕ) → Option ℕ → Type 0
ReadWhere heard (Some readings) (Some made) = map reading_of heard ≡ readings_from (length heard) (readings made)
ReadWhere heard _ _ = Unit {0}
