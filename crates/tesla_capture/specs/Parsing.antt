-- What bytes of a capture or a script tell that were read so far. Both are files of records.
use Rattle.std.specs.Prelude.{ℕ, zero, suc, ◌+◌, Bool, List, [], ◌∷◌, length, take, Option, Some, None, nat_lt, ◌==◌, if◌then◌else◌}
use Rattle.std.specs.Int.{w16, w64}
use Rattle.tesla_base.specs.Prefix.{parse_number}
use Rattle.tesla_records.specs.Grammar as files
use Rattle.tesla_records.specs.Grammar.{Parsed, Awaits, Whole, Bad, ParsedHead, AwaitsHead, HeadIs, NoHead}
use Rattle.tesla_capture.specs.Grammar.{Grammar}
use Rattle.tesla_capture.specs.declared.record.RecordFault.{RecordFault}
use Rattle.tesla_capture.specs.declared.record.RecordFault.TheVariants.{BadKind, TooLong}

-- what bytes tell that have to begin so
unfoldable pub parse_head : List ℕ → List ℕ → ParsedHead (Unit {0})
parse_head [] bytes = HeadIs tt
parse_head (wanted ∷ head) [] = AwaitsHead
parse_head (wanted ∷ head) (byte ∷ bytes) = if byte == wanted then parse_head head bytes else NoHead

-- a record of kind 1 behind the number of bytes that it carries
abbrev pub parse_carried : (G : Grammar) → ℕ → ℕ → List ℕ → Parsed G.Record RecordFault
parse_carried G reading n bytes =
    if nat_lt G.longest n then Bad TooLong
    else if nat_lt (length bytes) n then Awaits
    else Whole (G.carrying reading (take n bytes)) (11 + n)

-- behind its reading, told that number where it is there
abbrev pub parse_length : (G : Grammar) → ℕ → Option (ℕ × List ℕ) → Parsed G.Record RecordFault
parse_length G reading None = Awaits
parse_length G reading (Some n) = parse_carried G reading n.0 n.1

-- behind its kind, told the reading where it is there
abbrev pub parse_carrying : (G : Grammar) → Option (ℕ × List ℕ) → Parsed G.Record RecordFault
parse_carrying G None = Awaits
parse_carrying G (Some reading) = parse_length G reading.0 (parse_number w16 reading.1)

-- how many bytes a record of kind 2 has
abbrev pub bare_size : Bool → ℕ
bare_size timed = if timed then 9 else 1

-- a reading, where records of kind 2 have one
unfoldable pub reading_at : Bool → List ℕ → Option (ℕ × List ℕ)
reading_at timed bytes = if timed then parse_number w64 bytes else Some (0, bytes)

-- a record of kind 2 behind its kind, told the reading where it is there
abbrev pub parse_bare : (G : Grammar) → Option (ℕ × List ℕ) → Parsed G.Record RecordFault
parse_bare G None = Awaits
parse_bare G (Some reading) = Whole (G.bare reading.0) (bare_size G.timed)

-- what the bytes that were read of a record tell
unfoldable pub parse_record : (G : Grammar) → List ℕ → Parsed G.Record RecordFault
parse_record G [] = Awaits
parse_record G (suc zero ∷ rest) = parse_carrying G (parse_number w64 rest)
parse_record G (suc (suc zero) ∷ rest) = parse_bare G (reading_at G.timed rest)
parse_record G _ = Bad BadKind

-- such a file as a file of records, whose head tells nothing
abbrev pub file_of : Grammar → files.Grammar
file_of G = record {
  Head = Unit {0};
  head_text = λ head. G.head;
  IsHead = λ head. Unit {0};
  head_size = 5;
  parse_head = parse_head G.head;
  Record = G.Record;
  record_text = G.record_text;
  IsRecord = G.IsRecord;
  longest = 11 + G.longest;
  Kind = RecordFault;
  parse = parse_record G;
}
