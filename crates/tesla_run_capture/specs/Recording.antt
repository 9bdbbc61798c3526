-- What is recorded of an open link, with an open clock and an open sink.
use Rattle.std.specs.Prelude.{◌≡◌, ◌⊎◌, ℕ, ◌+◌, ◌<◌, ◌≤◌, Bool, true, false, List, [], ◌++◌, length, map, Option, IfSome, Result, Ok, Err}
use Rattle.std.specs.List.{AllByRecursion}
use Rattle.tesla_capture.specs.Capture.{IsCapture, limit}
use Rattle.tesla_capture.specs.Gathering.{Gathers, gathered}
use Rattle.tesla_desk.specs.Clocks.{Gives, Ticking, Ticks}
use Rattle.tesla_desk.specs.Links.{datagrams, after_letters}
use Rattle.tesla_desk.specs.Outside.{AppendsPrefix, with_bytes}
use Rattle.tesla_desk.specs.declared.link.Letter.{Letter}
use Rattle.tesla_front.specs.declared.fault.Fault.{Fault}
use Rattle.tesla_front.specs.declared.fault.Fault.TheVariants as faults
use Rattle.tesla_run_capture.specs.Heard.{BreaksOff, Heard, IsFull, IsHeard, ReadWhere, bytes_of, piece_of, pieces_of, reading_of, records_of, text_of}
use Rattle.tesla_run_capture.specs.Pieces.{AreReadFor}
use Rattle.tesla_run_capture.specs.declared.recorder.Recorder.{Recorder}
use Rattle.tesla_run_capture.specs.declared.recording.Hearing.{Hearing}
use Rattle.tesla_run_capture.specs.declared.recording.Hearing.TheVariants as hearings

-- ---- steps

-- letters left the link, and each datagram among them was heard, in order, each with one reading of the clock
pub record Hears (heard : List Heard) (left later : Option (List Letter)) (before after : Option Ticking) : Type 0 where
  pub taken : List Letter
  pub left_is : left ≡ after_letters taken later
  pub heard_are : datagrams taken ≡ map bytes_of heard
  pub gives : Gives (map reading_of heard) before after
  pub limits : AllByRecursion IsHeard heard

-- the records of one datagram were put behind those gathered, with one reading of the clock, which was asked for it, or a prefix of these was written
pub record Puts (may_ask : ℕ → List ℕ → Bool) (read_for : ℕ → List ℕ → ℕ → Bool) (bytes : List ℕ) (old new : Recorder) (written kept : Option (List ℕ)) (before after : Option Ticking) (whole : Bool) : Type 0 where
  pub reading : ℕ
  pub ticks : Ticks before after reading
  pub read : (number : ℕ) → may_ask number bytes ≡ true → read_for number bytes reading ≡ true
  pub limits : IsHeard (record { reading = reading; bytes = bytes })
  pub put : whole ≡ true → Gathers written kept (gathered new.gatherer) (gathered old.gatherer ++ piece_of (record { reading = reading; bytes = bytes }))
  pub count : whole ≡ true → new.count ≡ old.count + 1
  pub size : whole ≡ true → new.size ≡ old.size + (12 + length bytes)
  pub prefix : whole ≡ false → AppendsPrefix written kept (gathered old.gatherer ++ piece_of (record { reading = reading; bytes = bytes }))

-- a recorder has this of what was heard: a prefix of its records was written, and the rest is gathered
pub record Keeps (heard : List Heard) (recorder : Recorder) (written kept : Option (List ℕ)) : Type 0 where
  pub gathers : Gathers written kept (gathered recorder.gatherer) (pieces_of heard)
  pub count : recorder.count ≡ length heard
  pub size : recorder.size ≡ 5 + length (pieces_of heard)

-- what was heard, each with a reading that a clock gave when it was asked for it, and kept by a recorder
pub record HearsOn (read_for : ℕ → List ℕ → ℕ → Bool) (recorder : Recorder) (left later : Option (List Letter)) (before after : Option Ticking) (written kept : Option (List ℕ)) : Type 0 where
  pub heard : List Heard
  pub hears : Hears heard left later before after
  pub read : AreReadFor read_for heard
  pub keeps : Keeps heard recorder written kept

-- what was heard, until a write failed
pub record HearsLast (left later : Option (List Letter)) (before after : Option Ticking) (written kept : Option (List ℕ)) : Type 0 where
  pub heard : List Heard
  pub hears : Hears heard left later before after
  pub fits : 5 + length (pieces_of heard) ≤ limit
  pub breaks : BreaksOff (pieces_of heard) written kept

-- what was heard, and why no more was
abbrev pub HearsAll : (ℕ → List ℕ → ℕ → Bool) → Hearing → Recorder → Option (List Letter) → Option (List Letter) → Option Ticking → Option Ticking → Option (List ℕ) → Option (List ℕ) → Type 0
HearsAll read_for hearings.Over recorder left later before after written kept =
    HearsOn read_for recorder left later before after written kept × (IfSome later (λ rest. rest ≡ []) ⊎ IsFull recorder.size)
HearsAll read_for hearings.LinkFailed recorder left later before after written kept = HearsOn read_for recorder left later before after written kept
HearsAll read_for hearings.OutputFailed recorder left later before after written kept = HearsLast left later before after written kept

-- ---- what may be written

-- the next piece of a capture, told the letters that an open link had left and what an open clock told: what was written before, where that is told, and then the piece are the capture of what was heard so far
pub record IsNextPiece (read_for : ℕ → List ℕ → ℕ → Bool) (left : Option (List Letter)) (ticking : Option Ticking) (written : Option (List ℕ)) (piece : List ℕ) : Type 0 where
  pub heard : List Heard
  pub later : Option (List Letter)
  pub after : Option Ticking
  pub hears : Hears heard left later ticking after
  pub read : AreReadFor read_for heard
  pub fits : length (text_of heard) ≤ limit
  pub before : List ℕ
  pub written_is : IfSome written (λ bytes. bytes ≡ before)
  pub whole : before ++ piece ≡ text_of heard

-- ---- a recording

-- what a recording comes to: how many datagrams there were, of which all is written, once nothing is left or the capture is full; a failed link, before which all is written but where the sink failed too; or a failed write
abbrev pub ComesTo : Result ℕ Fault → List Heard → List ℕ → Option (List Letter) → Option (List ℕ) → Option (List ℕ) → ℕ → Type 0
ComesTo (Ok count) heard text later written kept failed = (count ≡ length heard) × (kept ≡ with_bytes written text) × (IfSome later (λ rest. rest ≡ []) ⊎ IsFull (length (text_of heard)))
ComesTo (Err faults.Read) heard text later written kept failed = ((failed ≡ 0) × (kept ≡ with_bytes written text)) ⊎ ((0 < failed) × BreaksOff text written kept)
ComesTo (Err faults.Write) heard text later written kept failed = BreaksOff text written kept
ComesTo (Err fault) heard text later written kept failed = ⊥

-- what was recorded behind the head, on a sink on which so many writes failed
pub record Records (result : Result ℕ Fault) (left later : Option (List Letter)) (before after : Option Ticking) (written kept : Option (List ℕ)) (failed : ℕ) : Type 0 where
  pub heard : List Heard
  pub hears : Hears heard left later before after
  pub fits : length (text_of heard) ≤ limit
  pub comes : ComesTo result heard (pieces_of heard) later written kept failed

-- what was recorded with its head, and with the clock that was made for it, on a new sink
pub record RecordsFile (result : Result ℕ Fault) (left later : Option (List Letter)) (readings : Option (ℕ → List ℕ)) (made : Option ℕ) (written kept : Option (List ℕ)) (failed : ℕ) : Type 0 where
  pub heard : List Heard
  pub taken : List Letter
  pub left_is : left ≡ after_letters taken later
  pub heard_are : datagrams taken ≡ map bytes_of heard
  pub clock : ReadWhere heard readings made
  pub is_capture : IsCapture (text_of heard) (records_of heard)
  pub comes : ComesTo result heard (text_of heard) later written kept failed
