-- What was written to STATUS while the workers ran, and when they had ended.
use Rattle.std.specs.Prelude.{◌≡◌, ℕ, Bool, true, false, List, [], ◌∷◌, ◌++◌, flat_map, Option, IfSome}
use Rattle.std.specs.List.{AllByRecursion}
use Rattle.std.proofs.Common.{◌∙◌}
use Rattle.tesla_counters.specs.Counts.{CountersId}
use Rattle.tesla_desk.specs.Faults.{HasCause}
use Rattle.tesla_desk.specs.Outside.{AppendsPrefix, Page, Untold, Absent, Holds, with_bytes}
use Rattle.tesla_front.specs.Files.{IsPrefix}
use Rattle.tesla_run_receive.specs.watch.Lines.{Columns, Counted, Follow, NoneFall, StatusLine, counted_at, line_text, none_counted}

-- ---- while the workers run

-- what was counted behind these lines: that of the last of them, or else the first argument
abbrev pub counted_behind : Counted → List StatusLine → Counted
counted_behind before [] = before
counted_behind before (line ∷ lines) = counted_behind line.counted lines

-- a line that was written while the workers ran
abbrev pub IsRunning : StatusLine → Type 0
IsRunning line = line.is_last ≡ false

module _ (columns : Columns) where
  -- lines were written to a sink while the workers ran, none of which has a count above these; or it failed, and has a prefix of them. Its count of faults was the first of the two numbers
  pub record Notes (counts : List ℕ) (before written : Option (List ℕ)) (first faults : ℕ) (failed : Bool) : Type 0 where
    pub lines : List StatusLine
    pub running : AllByRecursion IsRunning lines
    pub follow : Follow columns none_counted lines
    pub within : NoneFall (counted_behind none_counted lines) (counted_at columns.chains counts)
    pub all : failed ≡ false → written ≡ with_bytes before (flat_map (line_text columns.names) lines)
    pub prefix : AppendsPrefix before written (flat_map (line_text columns.names) lines)
    pub cause : HasCause first faults (failed ≡ true)

  -- the sink was new, and has the lines that were noted until now of the counts that are these
  pub record AreNoted (counts : List ℕ) (written : Option (List ℕ)) (faults : ℕ) (failed : Bool) : Type 0 where
    pub before : Option (List ℕ)
    pub empty : IfSome before (λ bytes. bytes ≡ [])
    pub noted : Notes counts before written 0 faults failed

-- what was noted stays so, whatever the sink held and its count of faults was before
abbrev pub NotesMore : Columns → List ℕ → Option (List ℕ) → ℕ → Bool → Columns → List ℕ → Option (List ℕ) → ℕ → Bool → Type 0
NotesMore columns counts written faults failed later now new count is =
    (before : Option (List ℕ)) (first : ℕ) → Notes columns counts before written first faults failed → Notes later now before new first count is

-- the sink under this name was new, and has the lines that were noted until now of the counts that are these
pub record IsMonitored (name : List ℕ) (counters : CountersId) (columns : Columns) (named : List ℕ) (own : CountersId) (own_columns : Columns) (counts : List ℕ) (written : Option (List ℕ)) (faults : ℕ) (failed : Bool) : Type 0 where
  pub before : Option (List ℕ)
  pub empty : IfSome before (λ bytes. bytes ≡ [])
  pub noted : Notes own_columns counts before written 0 faults failed
  pub name_is : named ≡ name
  pub counters_are : own ≡ counters
  pub columns_are : own_columns ≡ columns

-- it stays so while it runs
pub monitored_still : {name : List ℕ} {counters own later : CountersId} {columns seen after : Columns} {named renamed : List ℕ} {counts now : List ℕ} {written new : Option (List ℕ)} {faults count : ℕ} {failed is : Bool}
    → NotesMore seen counts written faults failed after now new count is → renamed ≡ named → later ≡ own → after ≡ seen → IsMonitored name counters columns named own seen counts written faults failed → IsMonitored name counters columns renamed later after now new count is
monitored_still more name_same counters_same columns_same was = record {
  before = was.before;
  empty = was.empty;
  noted = more was.before 0 was.noted;
  name_is = name_same ∙ was.name_is;
  counters_are = counters_same ∙ was.counters_are;
  columns_are = columns_same ∙ was.columns_are;
}

-- ---- when they have ended

-- one of these lines is a last one, behind all others, and has these numbers
pub record EndsWith (counted : Counted) (lines : List StatusLine) : Type 0 where
  pub prefix : List StatusLine
  pub last : StatusLine
  pub lines_are : lines ≡ prefix ++ last ∷ []
  pub running : AllByRecursion IsRunning prefix
  pub is_last : last.is_last ≡ true
  pub counted_is : last.counted ≡ counted

module _ (columns : Columns) (counted : Counted) where
  -- what was written to STATUS, which was new: lines, of which the last has these numbers, or where it failed a prefix of such lines
  pub record WritesStatus (before written : Option (List ℕ)) (faults : ℕ) (failed : Bool) : Type 0 where
    pub lines : List StatusLine
    pub follow : Follow columns none_counted lines
    pub ends : EndsWith counted lines
    pub empty : IfSome before (λ bytes. bytes ≡ [])
    pub all : failed ≡ false → written ≡ with_bytes before (flat_map (line_text columns.names) lines)
    pub prefix : AppendsPrefix before written (flat_map (line_text columns.names) lines)
    pub cause : HasCause 0 faults (failed ≡ true)

  -- the bytes are lines, of which the last has these numbers
  pub record AreLines (bytes : List ℕ) : Type 0 where
    pub lines : List StatusLine
    pub follow : Follow columns none_counted lines
    pub ends : EndsWith counted lines
    pub bytes_are : bytes ≡ flat_map (line_text columns.names) lines

  -- the bytes are a prefix of such lines, of which none has a count above these
  pub record BreakOff (bytes : List ℕ) : Type 0 where
    pub lines : List StatusLine
    pub follow : Follow columns none_counted lines
    pub ends : EndsWith counted lines
    pub prefix : IsPrefix (flat_map (line_text columns.names) lines) bytes

  -- the page holds lines in which no count falls, and the last has these numbers; where it failed, it holds a prefix of such lines
  abbrev pub HoldsLines : Page → Type 0
  HoldsLines Untold = Unit {0}
  HoldsLines Absent = ⊥
  HoldsLines (Holds bytes false) = AreLines bytes
  HoldsLines (Holds bytes true) = BreakOff bytes
