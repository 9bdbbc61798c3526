-- The records of a file before its first refused place, and that place.
use Rattle.std.specs.Prelude.{ℕ, ◌+◌, ◌-◌, zero, suc, List, [], ◌∷◌, ◌++◌, length, take, drop, Option, Some, None, nat_lt, nat_eq, if◌then◌else◌}
use Rattle.tesla_records.specs.Grammar.{Parsed, Awaits, Whole, Bad, Grammar, ParsedHead, AwaitsHead, HeadIs, NoHead, limit}
use Rattle.tesla_records.specs.declared.refusal.Refusal.{Refusal}
use Rattle.tesla_records.specs.declared.refusal.Refusal.TheVariants.{BadHead, Truncated, TooLarge, BadRecord}

-- a refusal whose kind is called otherwise
abbrev pub refusal_by : {K L : Type 0} → (K → L) → Refusal K → Refusal L
refusal_by f BadHead = BadHead
refusal_by f Truncated = Truncated
refusal_by f TooLarge = TooLarge
refusal_by f (BadRecord kind) = BadRecord (f kind)

-- how many bytes from its place on are dropped by a refusal: the one behind the limit that tells that the file goes on there
abbrev pub dropped_by : {K : Type 0} → ℕ → Refusal K → ℕ
dropped_by at BadHead = 0
dropped_by at Truncated = 0
dropped_by at TooLarge = if nat_eq at limit then 1 else 0
dropped_by at (BadRecord kind) = 0

-- what comes next in a file: its end, a whole record with the place and the bytes after it, or a place that is refused
pub data Next (R K : Type 0) : Type 0 where
  AtEnd : Next R K
  Recorded : R → ℕ → List ℕ → Next R K
  Refuses : ℕ → Refusal K → Next R K

-- a record isn't whole where the file ends, or at the limit
abbrev pub cut_by : {K : Type 0} → ℕ → List ℕ → Refusal K
cut_by offset rest = if nat_lt (offset + length rest) limit then Truncated else TooLarge

-- what comes next, told what the bytes within the limit tell
abbrev pub next_by : (G : Grammar) → ℕ → List ℕ → Parsed G.Record G.Kind → Next G.Record G.Kind
next_by G offset rest Awaits = Refuses offset (cut_by offset rest)
next_by G offset rest (Whole it size) = Recorded it (offset + size) (drop size rest)
next_by G offset rest (Bad kind) = Refuses offset (BadRecord kind)

-- what comes next in the rest of a file from the place of a record on; no byte behind the limit tells anything but that the file goes on there
unfoldable pub record_next : (G : Grammar) → ℕ → List ℕ → Next G.Record G.Kind
record_next G offset [] = AtEnd
record_next G offset (b ∷ rest) = next_by G offset (b ∷ rest) (G.parse (take (limit - offset) (b ∷ rest)))

-- what comes next in a file, told what its bytes tell of the head
abbrev pub after_head : (G : Grammar) → List ℕ → ParsedHead G.Head → Next G.Record G.Kind
after_head G bytes AwaitsHead = Refuses 0 BadHead
after_head G bytes (HeadIs head) = record_next G G.head_size (drop G.head_size bytes)
after_head G bytes NoHead = Refuses 0 BadHead

-- what comes next in the rest of a file from a place on; at place 0 the head comes first
unfoldable pub next_at : (G : Grammar) → ℕ → List ℕ → Next G.Record G.Kind
next_at G zero bytes = after_head G bytes (G.parse_head bytes)
next_at G (suc offset) rest = record_next G (suc offset) rest

-- the place of the record that is read from a place on: that of the first is behind the head
abbrev pub record_offset : Grammar → ℕ → ℕ
record_offset G zero = G.head_size
record_offset G (suc offset) = suc offset

-- what a head tells, where it is there
abbrev pub parsed_head : {H : Type 0} → ParsedHead H → Option H
parsed_head AwaitsHead = None
parsed_head (HeadIs head) = Some head
parsed_head NoHead = None

-- what the head tells that stands in the rest of a file from a place on: at place 0 alone
unfoldable pub head_at : (G : Grammar) → ℕ → List ℕ → Option G.Head
head_at G zero bytes = parsed_head (G.parse_head bytes)
head_at G (suc offset) rest = None

-- the whole records of a file before the first place that is refused, and that place with its cause; there is none where the file is in its grammar
pub record Outline (H R K : Type 0) : Type 0 where
  -- what the head tells, where there is one
  pub head : Option H
  pub records : List R
  pub fault : Option (ℕ × Refusal K)

-- the first of two heads
abbrev pub first_head : {H : Type 0} → Option H → Option H → Option H
first_head None other = other
first_head (Some head) other = Some head

-- an outline with this head before it, where there is one
abbrev pub with_head : {H R K : Type 0} → Option H → Outline H R K → Outline H R K
with_head head outline = record { head = first_head head outline.head; records = outline.records; fault = outline.fault }

-- an outline with one record before it
abbrev pub with_record : {H R K : Type 0} → R → Outline H R K → Outline H R K
with_record first outline = record { head = outline.head; records = first ∷ outline.records; fault = outline.fault }

-- an outline with these records before it
abbrev pub with_records : {H R K : Type 0} → List R → Outline H R K → Outline H R K
with_records records outline = record { head = outline.head; records = records ++ outline.records; fault = outline.fault }

-- the outline of what comes next, told that of what stands after a record
abbrev pub outline_by : {H R K : Type 0} → (ℕ → List ℕ → Outline H R K) → Next R K → Outline H R K
outline_by after AtEnd = record { head = None; records = []; fault = None }
outline_by after (Recorded first offset rest) = with_record first (after offset rest)
outline_by after (Refuses offset refusal) = record { head = None; records = []; fault = Some (offset, refusal) }

-- the outline of at most so many records, without the head
unfoldable pub outline_within : (G : Grammar) → ℕ → ℕ → List ℕ → Outline G.Head G.Record G.Kind
outline_within G zero offset rest = record { head = None; records = []; fault = None }
outline_within G (suc most) offset rest = outline_by (outline_within G most) (next_at G offset rest)

-- the outline of the rest of a file from a place on: there are no more records than bytes
unfoldable pub outline_at : (G : Grammar) → ℕ → List ℕ → Outline G.Head G.Record G.Kind
outline_at G offset rest = with_head (head_at G offset rest) (outline_within G (suc (length rest)) offset rest)

-- the outline of a file
abbrev pub outline_of : (G : Grammar) → List ℕ → Outline G.Head G.Record G.Kind
outline_of G bytes = outline_at G 0 bytes
