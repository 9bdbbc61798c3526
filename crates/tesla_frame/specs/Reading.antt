-- Frames read from left to right, all of the bytes.
use Rattle.std.specs.Prelude.{ℕ, zero, suc, Bool, true, ◌&&◌, List, [], ◌∷◌, length, Option, Some, None, nat_lt, nat_le, ◌==◌, bytes_eq, if◌then◌else◌, codes}
use Rattle.std.specs.Int.{w16, w32, w64}
use Rattle.tesla_base.specs.Prefix.{◌>>=◌, parse_bytes, parse_number}
use Rattle.tesla_base.specs.Version.{version_of, most_chains, shortest_tag, longest_tag}
use Rattle.tesla_base.specs.declared.names.Key.{Key}
use Rattle.tesla_base.specs.declared.version.Version.{Version}
use Rattle.tesla_base.specs.declared.version.Version.TheVariants.{One, Two}
use Rattle.tesla_frame.specs.declared.row.KeyRow.{KeyRow}
use Rattle.tesla_frame.specs.Frame.{TagRow, DataFrame, KeysFrame, Frame, Data, Disclosure}

-- a field is a value with the bytes after it: here a key
unfoldable pub key_at : List ℕ → Option (Key × List ℕ)
key_at bytes = do
  key ← parse_bytes 32 bytes
  Some (record { 0 = key.0 }, key.1)

-- a flag, and a key behind a 1
unfoldable pub optional_key_at : List ℕ → Option (Option Key × List ℕ)
optional_key_at [] = None
optional_key_at (zero ∷ rest) = Some (None, rest)
optional_key_at (suc zero ∷ rest) = do
  key ← key_at rest
  Some (Some key.0, key.1)
optional_key_at (suc (suc _) ∷ rest) = None

-- a tag of that length, and perhaps a key
unfoldable pub tag_row_at : ℕ → List ℕ → Option (TagRow × List ℕ)
tag_row_at size bytes = do
  tag ← parse_bytes size bytes
  key ← optional_key_at tag.1
  Some (record { tag = tag.0; key = key.0 }, key.1)

unfoldable pub byte_at : List ℕ → Option (ℕ × List ℕ)
byte_at [] = None
byte_at (byte ∷ rest) = Some (byte, rest)

unfoldable pub key_row_at : List ℕ → Option (KeyRow × List ℕ)
key_row_at bytes = do
  chain ← byte_at bytes
  index ← parse_number w32 chain.1
  key ← key_at index.1
  Some (record { chain = record { 0 = chain.0 }; index = index.0; key = key.0 }, key.1)

-- so many rows, each as row_at reads it
unfoldable pub rows_at : {A : Type 0} → (List ℕ → Option (A × List ℕ)) → ℕ → List ℕ → Option (List A × List ℕ)
rows_at row_at zero bytes = Some ([], bytes)
rows_at row_at (suc n) bytes = do
  first ← row_at bytes
  others ← rows_at row_at n first.1
  Some (first.0 ∷ others.0, others.1)

-- a byte within limits
unfoldable pub byte_within : ℕ → ℕ → List ℕ → Option (ℕ × List ℕ)
byte_within least most bytes = do
  byte ← byte_at bytes
  if nat_le least byte.0 && nat_le byte.0 most then Some byte else None

-- the number of rows
abbrev pub count_at : Version → List ℕ → Option (ℕ × List ℕ)
count_at version bytes = byte_within 1 (most_chains version) bytes

-- the length of a data frame's tags, which version 1 doesn't write
unfoldable pub tag_length_at : Version → List ℕ → Option (ℕ × List ℕ)
tag_length_at One bytes = Some (longest_tag One, bytes)
tag_length_at Two bytes = byte_within (shortest_tag Two) (longest_tag Two) bytes

-- the payload behind its length, which has a limit
unfoldable pub payload_at : List ℕ → Option (List ℕ × List ℕ)
payload_at bytes = do
  n ← parse_number w16 bytes
  if nat_lt 1200 n.0 then None else parse_bytes n.0 n.1

-- each chain's number is above the one before
abbrev pub chains_rise : List KeyRow → Bool
chains_rise [] = true
chains_rise (row ∷ []) = true
chains_rise (row ∷ next ∷ rows) = nat_lt row.chain.0 next.chain.0 && chains_rise (next ∷ rows)

-- all of the bytes after the kind of a data frame
unfoldable pub data_of : Version → List ℕ → Option DataFrame
data_of version bytes = do
  stream ← parse_number w64 bytes
  interval ← parse_number w32 stream.1
  number ← parse_number w16 interval.1
  payload ← payload_at number.1
  count ← count_at version payload.1
  size ← tag_length_at version count.1
  rows ← rows_at (tag_row_at size.0) count.0 size.1
  if length rows.1 == 0
      then Some (record { version = version; stream = record { 0 = stream.0 }; name = record { interval = interval.0; number = number.0 }; payload = payload.0; tag_length = size.0; rows = rows.0 })
      else None

-- all of the bytes after the kind of a disclosure frame
unfoldable pub keys_of : Version → List ℕ → Option KeysFrame
keys_of version bytes = do
  stream ← parse_number w64 bytes
  count ← count_at version stream.1
  rows ← rows_at key_row_at count.0 count.1
  if length rows.1 == 0 && chains_rise rows.0
      then Some (record { version = version; stream = record { 0 = stream.0 }; rows = rows.0 })
      else None

-- the kind, and what follows it
unfoldable pub body_of : Version → List ℕ → Option Frame
body_of version (suc zero ∷ rest) = do
  f ← data_of version rest
  Some (Data f)
body_of version (suc (suc zero) ∷ rest) = do
  f ← keys_of version rest
  Some (Disclosure f)
body_of version _ = None

-- the version behind the magic
unfoldable pub version_at : List ℕ → Option (Version × List ℕ)
version_at bytes = do
  magic ← parse_bytes 4 bytes
  number ← byte_at magic.1
  version ← version_of number.0
  if bytes_eq magic.0 (codes "TSLA") then Some (version, number.1) else None

-- the frame that the bytes are, all of them
unfoldable pub frame_of : List ℕ → Option Frame
frame_of bytes = do
  version ← version_at bytes
  body_of version.0 version.1
