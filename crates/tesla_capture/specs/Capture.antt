-- The records of a capture, and their spelling. A capture is a file of what came to a receiver, and of when it was
-- asked for packets. The format is the project's own.
use Rattle.std.specs.Prelude.{ℕ, ◌<◌, ◌≤◌, ◌^◌, false, List, [], ◌∷◌, ◌++◌, length, codes}
use Rattle.std.specs.Int.{w16, w64, to_be_bytes}
use Rattle.tesla_capture.specs.Grammar.{Grammar, file_text, IsFile}
pub use Rattle.tesla_capture.specs.Grammar.{AreBytes, limit}

-- a datagram that came when the receiver's clock gave the reading, or a take of the next released packet
pub data Record : Type 0 where
  Arrives : (reading : ℕ) (bytes : List ℕ) → Record
  Takes : Record

-- the first bytes of every capture: the magic, and version 1
abbrev pub head : List ℕ
head = codes "TCAP" ++ 1 ∷ []

-- the one spelling of a record
abbrev pub record_text : Record → List ℕ
record_text (Arrives reading bytes) =
    1 ∷ [] ++ to_be_bytes w64 reading ++ to_be_bytes w16 (length bytes) ++ bytes
record_text Takes = 2 ∷ []

-- the limits of a record's fields
abbrev pub IsRecord : Record → Type 0
IsRecord (Arrives reading bytes) =
    (reading < 2 ^ 64) × (length bytes ≤ 2048) × AreBytes bytes
IsRecord Takes = Unit {0}

-- the grammar of captures
abbrev pub capture : Grammar
capture = record {
  head = head;
  Record = Record;
  record_text = record_text;
  IsRecord = IsRecord;
  carrying = Arrives;
  longest = 2048;
  bare = λ reading. Takes;
  timed = false;
}

-- the one spelling of a capture
abbrev pub capture_text : List Record → List ℕ
capture_text records = file_text capture records

-- the bytes spell the capture
abbrev pub IsCapture : List ℕ → List Record → Type 0
IsCapture bytes records = IsFile capture bytes records
