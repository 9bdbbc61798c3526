-- What capture comes to, and what its file holds.
use Rattle.std.specs.Prelude.{◌≡◌, ◌≢◌, ◌⊎◌, ℕ, ◌+◌, ◌≤◌, true, false, List, [], ◌∷◌, ◌++◌, length, map, Option, Some, None, codes}
use Rattle.std.specs.Option.{option_map}
use Rattle.tesla_capture.specs.Capture.{IsCapture}
use Rattle.tesla_desk.specs.Faults.{raised}
use Rattle.tesla_desk.specs.Links.{datagrams}
use Rattle.tesla_desk.specs.Live.{Live, Wire, UntoldWire, AbsentWire, HoldsWire, Remainder, LeavesAll}
use Rattle.tesla_desk.specs.Outside.{Page, Untold, Absent, Holds}
use Rattle.tesla_desk.specs.declared.link.Letter.{Letter}
use Rattle.tesla_front.specs.OutcomeView.{OutcomeView, Done, Failed}
use Rattle.tesla_front.specs.Command.{Command}
use Rattle.tesla_front.specs.Files.{IsPrefix}
use Rattle.tesla_front.specs.Lines.{count_line}
use Rattle.tesla_front.specs.Openings.{File}
use Rattle.tesla_front.specs.declared.fault.Fault.TheVariants as faults
use Rattle.tesla_run_capture.specs.Arguments.{CaptureArguments, IsCaptureForm, files_of_capture}
use Rattle.tesla_run_capture.specs.Heard.{Heard, IsFull, ReadWhere, bytes_of, held_most, records_of, text_of}

-- the line that tells how many datagrams were captured
abbrev pub captured_line : ℕ → List ℕ
captured_line count = count_line (codes "captured") count

-- ---- nothing was received

-- the link or the file of the capture wasn't opened, or there was no memory: the file is as before
pub record Stops (arguments : CaptureArguments) (before now : Live) (out out_now : File) (outcome : OutcomeView) : Type 0 where
  pub unheard : (now.left arguments.link ≡ before.left arguments.link) ⊎ LeavesAll (before.wire arguments.link) (now.left arguments.link)
  pub unwritten : out_now.page ≡ out.page
  pub cause : (outcome ≡ Failed faults.Open) ⊎ (outcome ≡ Failed faults.NoMemory)

-- ---- what was heard

-- the letters that left the link, where the desk tells letters: the datagrams among them were heard, in order and each once
pub record LeftLink (heard : List Heard) (letters : List Letter) (remainder : Remainder) : Type 0 where
  pub taken : List Letter
  pub letters_are : letters ≡ taken ++ remainder.letters
  pub heard_are : datagrams taken ≡ map bytes_of heard

abbrev pub LeftWhere : List Heard → Wire → Option Remainder → Type 0
LeftWhere heard (HoldsWire letters) (Some remainder) = LeftLink heard letters remainder
LeftWhere heard (HoldsWire letters) None = ⊥
LeftWhere heard AbsentWire remainder = ⊥
LeftWhere heard UntoldWire remainder = Unit {0}

-- ---- what was written

-- a prefix of the capture, but for so many bytes at most
pub record IsPrefixOf (text bytes : List ℕ) : Type 0 where
  pub prefix : IsPrefix text bytes
  pub few : length text ≤ length bytes + held_most

-- the file, where it is told, holds the capture, and no write failed
abbrev pub HoldsWhole : List ℕ → Page → Type 0
HoldsWhole text Untold = Unit {0}
HoldsWhole text Absent = ⊥
HoldsWhole text (Holds bytes failed) = (bytes ≡ text) × (failed ≡ false)

-- the file, where it is told, holds a prefix of the capture, and a write failed
abbrev pub HoldsCapturePrefix : List ℕ → Page → Type 0
HoldsCapturePrefix text Untold = Unit {0}
HoldsCapturePrefix text Absent = ⊥
HoldsCapturePrefix text (Holds bytes failed) = IsPrefixOf text bytes × (failed ≡ true)

-- no letter is left of the link, where that is told
abbrev pub LeavesNone : Option Remainder → Type 0
LeavesNone None = Unit {0}
LeavesNone (Some remainder) = remainder.letters ≡ []

-- how it ends: all letters left the link or the capture is full, and all is written; the link failed, and all is written, but where a write failed too; or a write failed
abbrev pub EndsAs : List Heard → Option Remainder → Page → OutcomeView → Type 0
EndsAs heard remainder out (Done lines) = (lines ≡ captured_line (length heard)) × HoldsWhole (text_of heard) out × (LeavesNone remainder ⊎ IsFull (length (text_of heard)))
EndsAs heard remainder out (Failed faults.Read) = HoldsWhole (text_of heard) out ⊎ HoldsCapturePrefix (text_of heard) out
EndsAs heard remainder out (Failed faults.Write) = HoldsCapturePrefix (text_of heard) out
EndsAs heard remainder out _ = ⊥

-- the datagrams of the link were recorded
pub record Captures (arguments : CaptureArguments) (before now : Live) (out : Page) (outcome : OutcomeView) : Type 0 where
  pub heard : List Heard
  pub link : LeftWhere heard (before.wire arguments.link) (now.left arguments.link)
  pub clock : ReadWhere heard before.readings before.made
  -- they make a capture in its grammar, which has an arrival and a take of each
  pub is_capture : IsCapture (text_of heard) (records_of heard)
  pub ends : EndsAs heard (now.left arguments.link) out outcome

-- ---- the command

-- what is told of links, posts and clocks is as before, but for what is left of this link, and that one clock may have been made
pub record TouchesLink (link : List ℕ) (before now : Live) : Type 0 where
  pub wires : (name : List ℕ) → now.wire name ≡ before.wire name
  pub others : (name : List ℕ) → name ≢ link → now.left name ≡ before.left name
  pub mails : (name : List ℕ) → now.mail name ≡ before.mail name
  pub readings : now.readings ≡ before.readings
  pub made : (now.made ≡ before.made) ⊎ (now.made ≡ option_map raised before.made)

-- what the run does: nothing was received; or both were opened, and what the link brought was recorded
abbrev pub DoesCapture : Live → Live → CaptureArguments → ℕ → List File → List File → OutcomeView → Type 0
DoesCapture before now arguments opened (link ∷ out ∷ []) (link_now ∷ out_now ∷ []) outcome =
    TouchesLink arguments.link before now × (Stops arguments before now out out_now outcome ⊎ ((opened ≡ 2) × Captures arguments before now out_now.page outcome))
DoesCapture before now arguments opened files files_now outcome = ⊥

-- the command, told what the desk has of links and clocks before and afterwards: its words, its files and what it does
abbrev pub capture : Live → Live → Command
capture before now = record { Arguments = CaptureArguments; IsForm = IsCaptureForm; files = files_of_capture; Does = DoesCapture before now }
