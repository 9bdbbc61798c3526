-- What the inner steps of show come to.
use Rattle.std.specs.Prelude.{◌≡◌, ℕ, suc, ◌<◌, ◌≤◌, Bool, true, false, Option, Some, None, List, [], ◌++◌}
use Rattle.tesla_capture.specs.Gathering.{Gathers}
use Rattle.tesla_desk.specs.Faults.{HasCause}
use Rattle.tesla_desk.specs.Outside.{AppendsPrefix, with_bytes}
use Rattle.tesla_front.specs.OutcomeView.{OutcomeView, Done, Refused, Failed, outcome_view}
use Rattle.tesla_front.specs.Printing.{PrintsLines}
use Rattle.tesla_front.specs.declared.fault.Fault.{Fault}
use Rattle.tesla_front.specs.declared.fault.Fault.TheVariants as faults
use Rattle.tesla_front.specs.declared.printed.Printed.{Printed}
use Rattle.tesla_front.specs.declared.printed.Printed.TheVariants.{Whole, Broken}
use Rattle.tesla_records.specs.Grammar.{Grammar, limit}
use Rattle.tesla_records.specs.Records.{parsed_head}
use Rattle.tesla_records.specs.Steps.{Progress, ahead}
use Rattle.tesla_records.specs.declared.refusal.Refusal.{Refusal}
use Rattle.tesla_trace.specs.declared.kind.TraceKind.{TraceKind}
use Rattle.tesla_trace.specs.declared.kind.TraceKind.TheVariants as kinds
use Rattle.tesla_run_audit.specs.show.Numbered.{IsAt, IsListed, IsListedSoFar, file_lines}
use Rattle.tesla_run_audit.specs.show.Show.{StopsBehind, refused_outcome, show_end, show_text}
use Rattle.tesla_run_audit.specs.declared.show.listing.Listed.{Listed}
use Rattle.tesla_run_audit.specs.declared.show.listing.Listed.TheVariants as listed

-- a text was put behind what was held: what was written then and what is held now are both, or a prefix of them was written
abbrev pub PutsText : Listed → Option (List ℕ) → Option (List ℕ) → List ℕ → List ℕ → Type 0
PutsText listed.WriteFault before now rest text = AppendsPrefix before now text
PutsText listed.End before now rest text = Gathers before now rest text
PutsText (listed.Refused offset kind) before now rest text = Gathers before now rest text
PutsText listed.ReadFault before now rest text = Gathers before now rest text

-- the same of one entry, behind which there may be more
abbrev pub PutsOne : Option Listed → Option (List ℕ) → Option (List ℕ) → List ℕ → List ℕ → Type 0
PutsOne None before now rest text = Gathers before now rest text
PutsOne (Some told) before now rest text = PutsText told before now rest text

module _ (G : Grammar) (line : ℕ → G.Record → List ℕ) (number : Option G.Head → ℕ) (kind_of : Refusal G.Kind → TraceKind) where
  -- the file was listed by this text up to a refused place; where it has no head, all of it is ahead
  pub record IsListedTo (bytes : List ℕ) (offset : ℕ) (kind : TraceKind) (ahead : Option (List ℕ)) (text : List ℕ) : Type 0 where
    pub refusal : Refusal G.Kind
    pub kind_is : kind ≡ kind_of refusal
    pub listed : IsListed G line number bytes (Some (offset, refusal)) text
    pub headless : kind ≡ kinds.BadHead → (parsed_head (G.parse_head bytes) ≡ None) × (ahead ≡ Some bytes) × (text ≡ [])

  -- what a file was listed to, told what is ahead and what the source has left
  abbrev pub IsListedBy : Listed → List ℕ → Option (List ℕ) → Option (List ℕ) → List ℕ → Type 0
  IsListedBy listed.End bytes ahead left text = IsListed G line number bytes None text
  IsListedBy (listed.Refused offset kind) bytes ahead left text = IsListedTo bytes offset kind ahead text
  IsListedBy listed.ReadFault bytes ahead left text = IsListedSoFar G line number bytes left text
  IsListedBy listed.WriteFault bytes ahead left text = (more : List ℕ) × (file_lines G line number bytes ≡ text ++ more)

  -- a file was listed, of which this was ahead before
  pub record Lists (told : Listed) (before ahead left : Option (List ℕ)) (written now : Option (List ℕ)) (held rest : List ℕ) : Type 0 where
    pub text : List ℕ
    pub puts : PutsText told written now rest (held ++ text)
    pub is : (bytes : List ℕ) → before ≡ Some bytes → IsListedBy told bytes ahead left text

  -- one entry more was listed, or the file was listed to there
  abbrev pub IsOneBy : Option Listed → List ℕ → Option G.Head → ℕ → ℕ → Option (List ℕ) → Option (List ℕ) → List ℕ → Type 0
  IsOneBy None bytes head offset count ahead left text = IsAt G line number bytes head offset (suc count) ahead text
  IsOneBy (Some told) bytes head offset count ahead left text = IsListedBy told bytes ahead left text

  -- a reader that has taken so much went on by one entry
  pub record ListsOne (told : Option Listed) (before after : Progress G.Head) (count : ℕ) (left_before left : Option (List ℕ)) (written now : Option (List ℕ)) (held rest : List ℕ) : Type 0 where
    pub text : List ℕ
    pub puts : PutsOne told written now rest (held ++ text)
    pub is : (bytes so_far : List ℕ) → IsAt G line number bytes before.head before.place count (ahead before left_before) so_far → IsOneBy told bytes after.head after.place count (ahead after left) left (so_far ++ text)

  -- so much was listed of a file of which this was ahead
  pub record ListedSoFar (at : Progress G.Head) (count : ℕ) (before left : Option (List ℕ)) (written now : Option (List ℕ)) (held rest : List ℕ) : Type 0 where
    pub text : List ℕ
    pub puts : Gathers written now rest (held ++ text)
    pub is : (bytes : List ℕ) → before ≡ Some bytes → IsAt G line number bytes at.head at.place count (ahead at left) text

-- the place rose, within the limit, and the reader goes on
pub record GoesUp {H : Type 0} (old new : Progress H) : Type 0 where
  pub rises : old.place < new.place
  pub limited : new.place ≤ limit
  pub going : new.going ≡ true

-- what a trace or a tail was listed to
abbrev pub IsShownBy : Listed → List ℕ → Option (List ℕ) → List ℕ → Type 0
IsShownBy listed.End bytes left text = (text ≡ show_text bytes) × (show_end bytes ≡ Done [])
IsShownBy (listed.Refused offset kind) bytes left text = (text ≡ show_text bytes) × (show_end bytes ≡ refused_outcome offset kind)
IsShownBy listed.ReadFault bytes left text = StopsBehind bytes left text
IsShownBy listed.WriteFault bytes left text = (more : List ℕ) × (show_text bytes ≡ text ++ more)

-- a trace or a tail was listed, of which this was left before
pub record ShowsTo (told : Listed) (before left written now : Option (List ℕ)) (rest : List ℕ) : Type 0 where
  pub text : List ℕ
  pub puts : PutsText told written now rest text
  pub is : (bytes : List ℕ) → before ≡ Some bytes → IsShownBy told bytes left text

-- which lines the file has, and what it comes to behind them, told what its source had left before and afterwards
abbrev pub ShowsBetween : Option (List ℕ) → Option (List ℕ) → List ℕ → OutcomeView → Type 0
ShowsBetween before left lines (Done summary) = (bytes : List ℕ) → before ≡ Some bytes → (lines ≡ show_text bytes) × (Done summary ≡ show_end bytes)
ShowsBetween before left lines (Refused status line) = (bytes : List ℕ) → before ≡ Some bytes → (lines ≡ show_text bytes) × (Refused status line ≡ show_end bytes)
ShowsBetween before left lines (Failed faults.Read) = (bytes : List ℕ) → before ≡ Some bytes → StopsBehind bytes left lines
ShowsBetween before left lines _ = ⊥

-- the entries of a file that is open were printed, told how often a read of it failed before and afterwards, what is written, and how often a write failed
pub record PrintsEntries (printed : Printed) (before left : Option (List ℕ)) (fresh reads : ℕ) (written now : Option (List ℕ)) (failed : ℕ) : Type 0 where
  pub lines : List ℕ
  pub outcome : OutcomeView
  pub shows : ShowsBetween before left lines outcome
  pub prints : PrintsLines lines outcome printed written now failed
  pub reads_cause : HasCause fresh reads (outcome ≡ Failed faults.Read)

-- the place of the head is refused
abbrev pub bad_head : TraceKind → Bool
bad_head kinds.BadHead = true
bad_head kinds.BadKind = false
bad_head kinds.Truncated = false
bad_head kinds.TooLong = false
bad_head kinds.TooLarge = false
bad_head kinds.BadCode = false

abbrev pub is_headless : Listed → Bool
is_headless listed.End = false
is_headless (listed.Refused offset kind) = bad_head kind
is_headless listed.ReadFault = false
is_headless listed.WriteFault = false

-- what listing comes to behind the lines
abbrev pub outcome_listed : Listed → OutcomeView
outcome_listed listed.End = Done []
outcome_listed (listed.Refused offset kind) = refused_outcome offset kind
outcome_listed listed.ReadFault = Failed faults.Read
outcome_listed listed.WriteFault = Failed faults.Write

-- what went wrong first where what was held can't be written
abbrev pub fault_listed : Listed → Fault
fault_listed listed.ReadFault = faults.Read
fault_listed _ = faults.Write

-- what was held was written at last, or a prefix of it
abbrev pub SettlesHeld : Listed → Printed → Option (List ℕ) → Option (List ℕ) → List ℕ → ℕ → Type 0
SettlesHeld told (Whole outcome) before now held failed = (outcome_view outcome ≡ outcome_listed told) × (now ≡ with_bytes before held) × (failed ≡ 0)
SettlesHeld told (Broken fault) before now held failed = (fault ≡ fault_listed told) × AppendsPrefix before now held × (0 < failed)

-- behind a failed write nothing is written
abbrev pub Settles : Listed → Printed → Option (List ℕ) → Option (List ℕ) → List ℕ → ℕ → Type 0
Settles listed.WriteFault printed before now held failed = (printed ≡ Broken faults.Write) × (now ≡ before) × (0 < failed)
Settles listed.End printed before now held failed = SettlesHeld listed.End printed before now held failed
Settles (listed.Refused offset kind) printed before now held failed = SettlesHeld (listed.Refused offset kind) printed before now held failed
Settles listed.ReadFault printed before now held failed = SettlesHeld listed.ReadFault printed before now held failed

-- on a sink so many writes failed: none did, unless a failed write is what came
abbrev pub SoundFor : Listed → ℕ → Type 0
SoundFor listed.WriteFault failed = 0 < failed
SoundFor _ failed = failed ≡ 0
