-- What capture may write while it runs. These are pieces that make the capture of what its link has brought so far.
use Rattle.std.specs.Prelude.{◌≡◌, ℕ, Bool, true, List, ◌++◌, map, Option, Some, IfSome}
use Rattle.std.specs.List.{slice_get}
use Rattle.tesla_capture.specs.Capture.{IsCapture}
use Rattle.tesla_desk.specs.Links.{datagrams}
use Rattle.tesla_desk.specs.Live.{Live, Wire, UntoldWire, AbsentWire, HoldsWire}
use Rattle.tesla_run_capture.specs.Arguments.{CaptureArguments, IsCaptureForm}
use Rattle.tesla_run_capture.specs.Heard.{Heard, ReadWhere, bytes_of, records_of}

-- each datagram that was heard, numbered from 0 in order, has a reading that a clock gave when it was asked for the datagram of that number
abbrev pub AreReadFor : (ℕ → List ℕ → ℕ → Bool) → List Heard → Type 0
AreReadFor read_for heard = (number : ℕ) (one : Heard) → slice_get heard number ≡ Some one → read_for number one.bytes one.reading ≡ true

-- the datagrams that were heard are the first of those that the desk has for the link, where it tells these
abbrev pub AreFirstOf : List Heard → Wire → Type 0
AreFirstOf heard (HoldsWire letters) = (more : List (List ℕ)) × (datagrams letters ≡ map bytes_of heard ++ more)
AreFirstOf heard AbsentWire = ⊥
AreFirstOf heard UntoldWire = Unit {0}

-- a piece that a capture of the link may write: what was written before, where that is told, and then the piece are the capture of what was heard so far
pub record IsCapturePiece (read_for : ℕ → List ℕ → ℕ → Bool) (live : Live) (link : List ℕ) (written : Option (List ℕ)) (piece : List ℕ) : Type 0 where
  pub heard : List Heard
  pub read : AreReadFor read_for heard
  pub brought : AreFirstOf heard (live.wire link)
  pub clock : ReadWhere heard live.readings live.made
  pub before : List ℕ
  pub written_is : IfSome written (λ bytes. bytes ≡ before)
  pub is_capture : IsCapture (before ++ piece) (records_of heard)

-- the words are the form of the command, the output has the name CAPTURE, and it may write the piece as a capture of LINK
pub record IsCapturedAs (read_for : ℕ → List ℕ → ℕ → Bool) (words : List (List ℕ)) (live : Live) (name : List ℕ) (written : Option (List ℕ)) (piece : List ℕ) : Type 0 where
  pub arguments : CaptureArguments
  pub form : IsCaptureForm arguments words
  pub named : name ≡ arguments.out
  pub of_link : IsCapturePiece read_for live arguments.link written piece
