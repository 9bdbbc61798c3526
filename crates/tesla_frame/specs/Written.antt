-- What stands in the room for a datagram once a text was written. The text stands at its start. Also the frames of the values that are written.
use Rattle.std.specs.Prelude.{◌≡◌, List, ℕ, [], ◌∷◌, ◌++◌, length, drop, Option}
use Rattle.tesla_base.specs.Tag.{tag_bytes}
use Rattle.tesla_base.specs.declared.names.Key.{Key}
use Rattle.tesla_base.specs.declared.names.Name.{Name}
use Rattle.tesla_base.specs.declared.names.StreamId.{StreamId}
use Rattle.tesla_base.specs.declared.names.WideTag.{WideTag}
use Rattle.tesla_base.specs.declared.version.Version.{Version}
use Rattle.tesla_frame.specs.declared.row.KeyRow.{KeyRow}
use Rattle.tesla_frame.specs.Frame.{TagRow, Frame, Data, Disclosure}

-- now begins with the text, and the bytes after it are those that stood there before
abbrev pub Begins : List ℕ → List ℕ → List ℕ → Type 0
Begins text before now = now ≡ text ++ drop (length text) before

-- a row for each tag, with the key at its place
abbrev pub rows_of : List WideTag → List (Option Key) → List TagRow
rows_of [] keys = []
rows_of (tag ∷ tags) [] = []
rows_of (tag ∷ tags) (key ∷ keys) = record { tag = tag_bytes tag; key = key } ∷ rows_of tags keys

-- the length of the first tag
abbrev pub first_length : List WideTag → ℕ
first_length [] = 0
first_length (tag ∷ tags) = tag.length

-- the tag has that length
abbrev pub HasLength : ℕ → WideTag → Type 0
HasLength size tag = tag.length ≡ size

-- the data frame with these parts
abbrev pub data_frame : Version → StreamId → Name → List ℕ → List WideTag → List (Option Key) → Frame
data_frame version stream name payload tags keys =
    Data (record { version = version; stream = stream; name = name; payload = payload; tag_length = first_length tags; rows = rows_of tags keys })

-- the disclosure frame with these parts
abbrev pub keys_frame : Version → StreamId → List KeyRow → Frame
keys_frame version stream rows = Disclosure (record { version = version; stream = stream; rows = rows })
