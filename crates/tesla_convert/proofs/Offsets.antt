-- The offsets of records.
use Rattle.std.proofs.Common.{◌≡◌, ℕ, zero, suc, ◌+◌, List, Option, length, arith}
use Rattle.tesla_capture.specs.Grammar.{Grammar}
use Rattle.tesla_capture.specs.Formats.{IsGrammar}
use Rattle.tesla_capture.specs.Records.{record_offset}
use Rattle.tesla_capture.specs.Steps.{GivesRecord}
use Rattle.tesla_capture.proofs.Taken.{given_offset}

-- a place behind the head is the offset of its record
offset_again : (now offset size : ℕ) → now ≡ record_offset offset + size → record_offset now ≡ record_offset offset + size
offset_again zero zero size is = absurd (omega arith)
offset_again zero (suc offset) size is = absurd (omega arith)
offset_again (suc now) offset size is = is

-- the next record stands behind the one that was given
pub next_offset : (G : Grammar) → IsGrammar G → (offset now : ℕ) (rest : List ℕ) (left : Option (List ℕ)) (first : G.Record) → GivesRecord G first offset rest now left → record_offset now ≡ record_offset offset + length (G.record_text first)
next_offset G is offset now rest left first gives = offset_again now offset (length (G.record_text first)) (given_offset G is offset rest first now left gives)
