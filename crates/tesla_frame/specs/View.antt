-- What views of a frame show: rows in the datagram's bytes.
use Rattle.std.specs.Prelude.{◌≡◌, ℕ, zero, suc, ◌+◌, ◌<◌, ◌≤◌, List, [], ◌∷◌, length, take, drop, slice_index, Option, Some, None}
use Rattle.std.specs.Int.{w32, from_be_bytes}
use Rattle.tesla_base.specs.declared.names.Key.{Key}
use Rattle.tesla_frame.specs.declared.row.KeyRow.{KeyRow}
use Rattle.tesla_frame.specs.Frame.{TagRow}

-- the key in the first bytes
abbrev pub key_in : List ℕ → Key
key_in bytes = record { 0 = take 32 bytes }

-- the key behind a flag, where that is 1
abbrev pub optional_key_in : List ℕ → Option Key
optional_key_in (suc zero ∷ rest) = Some (key_in rest)
optional_key_in _ = None

-- the row of a data frame that begins at a place
abbrev pub tag_row_in : ℕ → List ℕ → ℕ → TagRow
tag_row_in size bytes at = record { tag = take size (drop at bytes); key = optional_key_in (drop (at + size) bytes) }

-- a row stands there whole: its tag and its flag, and its key behind a 1
pub record IsRowAt (size : ℕ) (bytes : List ℕ) (at : ℕ) : Type 0 where
  pub flag : at + size < length bytes
  pub key : slice_index bytes (at + size) ≡ 1 → at + size + 33 ≤ length bytes

-- rows stand whole at the first places
abbrev pub AreRowsAt : ℕ → List ℕ → ℕ → List ℕ → Type 0
AreRowsAt size bytes count starts = (k : ℕ) → k < count → IsRowAt size bytes (slice_index starts k)

-- the row of a disclosure frame in the first bytes
abbrev pub key_row_in : List ℕ → KeyRow
key_row_in bytes = record { chain = record { 0 = slice_index bytes 0 }; index = from_be_bytes w32 (take 4 (drop 1 bytes)); key = key_in (drop 5 bytes) }

-- so many rows of a disclosure frame, one after the other
abbrev pub key_rows_in : ℕ → List ℕ → List KeyRow
key_rows_in zero bytes = []
key_rows_in (suc n) bytes = key_row_in bytes ∷ key_rows_in n (drop 37 bytes)
