-- The records of a capture before its first refused place, and that place.
use Rattle.std.specs.Prelude.{ℕ, List}
use Rattle.tesla_capture.specs.Capture.{Record, capture}
use Rattle.tesla_capture.specs.Records as records

-- the whole records of a capture before the first place that is refused, and that place with the kind
abbrev pub Outline : Type 0
Outline = records.Outline Record

-- the outline of a capture
abbrev pub outline_of : List ℕ → Outline
outline_of bytes = records.outline_of capture bytes
