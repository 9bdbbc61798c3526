-- A station with the last entries of its history, as they are spelled.
use Rattle.std.specs.Prelude.{◌≡◌, ℕ, ◌-◌, ◌≤◌, ◌*◌, ◌+◌, List, [], ◌∷◌, ◌++◌, length, drop, take, map}
use Rattle.std.specs.List.{All, sum}
use Rattle.circular_buffer.specs.Buffer.{Buffer, keep_last}
use Rattle.tesla_receiver.specs.Entries.{Entry}
use Rattle.tesla_trace.specs.Trace.{entry_text}

-- the last entries of a history, at most so many
abbrev pub last_entries : ℕ → List Entry → List Entry
last_entries keep history = drop (length history - keep) history

-- how many texts are kept at most, those that are, the oldest first, and for how many bytes and lengths of texts there is room, together
pub record Tail : Type 0 where
  pub keep : ℕ
  pub texts : List (List ℕ)
  pub reserved : ℕ

-- the room for so many of the longest texts, and for their lengths
abbrev pub room_for : ℕ → ℕ
room_for keep = keep * 2070 + keep

-- a tail with one text more
abbrev pub with_text : Tail → List ℕ → Tail
with_text tail text = record { keep = tail.keep; texts = keep_last tail.keep (tail.texts ++ text ∷ []); reserved = tail.reserved }

-- the texts of these lengths that lie in bytes, one behind the other
abbrev pub texts_in : List ℕ → List ℕ → List (List ℕ)
texts_in [] bytes = []
texts_in (size ∷ sizes) bytes = take size bytes ∷ texts_in sizes (drop size bytes)

-- bytes hold texts of these lengths and nothing else, and there is room for as many of the longest as are kept at most
pub record HoldsTexts (bytes lengths : Buffer ℕ) : Type 0 where
  pub some : 1 ≤ lengths.capacity
  pub few : lengths.capacity ≤ 4096
  pub count : length lengths.items ≤ lengths.capacity
  pub room : bytes.capacity ≡ lengths.capacity * 2070
  pub short : All (λ size. size ≤ 2070) lengths.items
  pub whole : sum lengths.items ≡ length bytes.items

-- what a contract sees of a station with the last entries of its history: their texts, the oldest first
pub record RecordedState (V : Type 0) : Type 0 where
  pub station : V
  pub keep : ℕ
  pub texts : List (List ℕ)
  -- for how many bytes and lengths of texts there is room, together
  pub reserved : ℕ

-- it stands for a history: the station does, the texts are the spellings of its last entries, and there is room for as many of the longest as are kept at most, as there was at the opening
pub record RecordedStands {V : Type 0} (stands : V → List Entry → Type 0) (state : RecordedState V) (history : List Entry) : Type 0 where
  pub stood : stands state.station history
  pub last : state.texts ≡ map entry_text (last_entries state.keep history)
  pub room : state.reserved ≡ room_for state.keep
