-- Records taken from a capture or a script, and bytes without a refused place.
use Rattle.std.specs.Prelude.{◌≡◌, ℕ, List, ◌++◌, Option}
use Rattle.tesla_records.specs.Taken as files
use Rattle.tesla_capture.specs.Grammar.{Grammar}
use Rattle.tesla_capture.specs.Parsing.{file_of}
use Rattle.tesla_capture.specs.Records.{outline_of}

-- these records were taken from the start of the file, with the head where that was reached, and the rest of it stands at the place: whatever follows the front is read on from there
abbrev pub IsTaken : (G : Grammar) → List ℕ → List G.Record → ℕ → List ℕ → Type 0
IsTaken G bytes records offset rest = (head : Option (Unit {0})) × files.IsTaken (file_of G) bytes head records offset rest

-- the bytes hold no refused place: they are a part of the head, or at most their last record isn't whole, so that a longer file may go on
abbrev pub HoldsNoRefusal : Grammar → List ℕ → Type 0
HoldsNoRefusal G bytes = files.HoldsNoRefusal (file_of G) bytes

-- the file was read up to what is left of it: what was read holds no refused place, and its whole records are these
pub record IsReadUpTo (G : Grammar) (bytes left : List ℕ) (records : List G.Record) : Type 0 where
  pub read : List ℕ
  pub whole : bytes ≡ read ++ left
  pub unrefused : HoldsNoRefusal G read
  pub records_are : (outline_of G read).records ≡ records
