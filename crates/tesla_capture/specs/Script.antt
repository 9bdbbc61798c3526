-- The records of a script, and their spelling. A script is a file of what a sender is to send, and of when. The format is the project's own.
use Rattle.std.specs.Prelude.{ℕ, ◌<◌, ◌≤◌, ◌^◌, true, List, [], ◌∷◌, ◌++◌, length, codes}
use Rattle.std.specs.Int.{w16, w64, to_be_bytes}
use Rattle.tesla_capture.specs.Grammar.{AreBytes, Grammar, file_text, IsFile}

-- a message with its payload, or a disclosure of keys, each with what the sender's clock gives then
pub data Record : Type 0 where
  Sends : (reading : ℕ) (payload : List ℕ) → Record
  Discloses : (reading : ℕ) → Record

-- the first bytes of every script: the magic, and version 1
abbrev pub head : List ℕ
head = codes "TSCR" ++ 1 ∷ []

-- the one spelling of a record
abbrev pub record_text : Record → List ℕ
record_text (Sends reading payload) =
    1 ∷ [] ++ to_be_bytes w64 reading ++ to_be_bytes w16 (length payload) ++ payload
record_text (Discloses reading) = 2 ∷ [] ++ to_be_bytes w64 reading

-- the limits of a record's fields
abbrev pub IsRecord : Record → Type 0
IsRecord (Sends reading payload) =
    (reading < 2 ^ 64) × (length payload ≤ 1200) × AreBytes payload
IsRecord (Discloses reading) = reading < 2 ^ 64

-- the grammar of scripts
abbrev pub script : Grammar
script = record {
  head = head;
  Record = Record;
  record_text = record_text;
  IsRecord = IsRecord;
  carrying = Sends;
  longest = 1200;
  bare = Discloses;
  timed = true;
}

-- the one spelling of a script
abbrev pub script_text : List Record → List ℕ
script_text records = file_text script records

-- the bytes spell the script
abbrev pub IsScript : List ℕ → List Record → Type 0
IsScript bytes records = IsFile script bytes records
