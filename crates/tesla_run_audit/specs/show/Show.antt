-- What show comes to, and what it prints.
use Rattle.std.specs.Prelude.{◌≡◌, ◌⊎◌, ℕ, Option, Some, None, List, [], ◌∷◌, ◌++◌, codes}
use Rattle.tesla_desk.specs.Outside.{Page}
use Rattle.tesla_front.specs.OutcomeView.{OutcomeView, Done, Refused, Failed}
use Rattle.tesla_front.specs.Files.{HoldsWhere}
use Rattle.tesla_front.specs.Openings.{File}
use Rattle.tesla_front.specs.Printing.{PrintingCommand}
use Rattle.tesla_front.specs.Refusal.{refused_line}
use Rattle.tesla_front.specs.declared.fault.Fault.TheVariants as faults
use Rattle.tesla_records.specs.Records.{parsed_head, outline_of}
use Rattle.tesla_records.specs.Taken.{HoldsNoRefusal}
use Rattle.tesla_records.specs.declared.refusal.Refusal.{Refusal}
use Rattle.tesla_trace.specs.Parsing.{parse_head}
use Rattle.tesla_trace.specs.Grammar.{tail, trace}
use Rattle.tesla_trace.specs.Names.{kind_name}
use Rattle.tesla_trace.specs.declared.kind.EntryFault.{EntryFault}
use Rattle.tesla_trace.specs.declared.kind.TraceKind.{TraceKind}
use Rattle.tesla_audit.specs.Steps.{kind_of}
use Rattle.tesla_run_audit.specs.show.Arguments.{IsShowForm, ShowArguments, files_of_show}
use Rattle.tesla_run_audit.specs.show.Lines.{entry_line}
use Rattle.tesla_run_audit.specs.show.Numbered.{file_lines}

-- ---- the lines of a file

-- the number of the first entry of a trace, and of a tail, told what its head tells
abbrev pub trace_first : Option ℕ → ℕ
trace_first head = 0

abbrev pub tail_first : Option ℕ → ℕ
tail_first None = 0
tail_first (Some first) = first

-- the lines of a file and its refused place, told whether its head is that of a trace: any other file is read as a tail
abbrev pub text_by : Option ℕ → List ℕ → List ℕ
text_by (Some ingests) bytes = file_lines trace entry_line trace_first bytes
text_by None bytes = file_lines tail entry_line tail_first bytes

abbrev pub fault_by : Option ℕ → List ℕ → Option (ℕ × Refusal EntryFault)
fault_by (Some ingests) bytes = (outline_of trace bytes).fault
fault_by None bytes = (outline_of tail bytes).fault

-- the lines of the whole entries before the first refused place of a trace or a tail
unfoldable pub show_text : List ℕ → List ℕ
show_text bytes = text_by (parsed_head (parse_head bytes)) bytes

-- what a place that is refused comes to
abbrev pub refused_outcome : ℕ → TraceKind → OutcomeView
refused_outcome offset kind = Refused 3 (refused_line (codes "trace") offset (kind_name kind))

-- what a file comes to, told its first refused place
abbrev pub end_by : Option (ℕ × Refusal EntryFault) → OutcomeView
end_by None = Done []
end_by (Some fault) = refused_outcome fault.0 (kind_of fault.1)

-- what a file comes to: its end, or the first refused place
unfoldable pub show_end : List ℕ → OutcomeView
show_end bytes = end_by (fault_by (parsed_head (parse_head bytes)) bytes)

-- no place of these bytes is refused, as of a trace or as of a tail
abbrev pub IsUnrefused : List ℕ → Type 0
IsUnrefused read = HoldsNoRefusal trace read ⊎ HoldsNoRefusal tail read

-- ---- what the command does

-- the bytes that had left a file hold no refused place, and these are their lines
abbrev pub StopsBehind : List ℕ → Option (List ℕ) → List ℕ → Type 0
StopsBehind bytes left lines = (read : List ℕ) × (rest : List ℕ) × (left ≡ Some rest) × (bytes ≡ read ++ rest) × IsUnrefused read × (lines ≡ show_text read)

-- the file was read as far as it goes: these are its lines, and this is what it comes to
abbrev pub ShowsAll : Page → List ℕ → OutcomeView → Type 0
ShowsAll input lines outcome = HoldsWhere input (λ bytes. (lines ≡ show_text bytes) × (outcome ≡ show_end bytes))

-- a read failed
abbrev pub ShowsSoFar : Page → Option (List ℕ) → List ℕ → Type 0
ShowsSoFar input left lines = HoldsWhere input (λ bytes. StopsBehind bytes left lines)

-- which lines the file has, and what it comes to behind them, told what was left of it; where it wasn't opened there are none
abbrev pub Shows : Page → Option (List ℕ) → List ℕ → OutcomeView → Type 0
Shows input left lines (Done summary) = ShowsAll input lines (Done summary)
Shows input left lines (Refused status line) = ShowsAll input lines (Refused status line)
Shows input left lines (Failed faults.Read) = ShowsSoFar input left lines
Shows input left lines (Failed faults.NoMemory) = lines ≡ []
Shows input left lines (Failed faults.Open) = lines ≡ []
Shows input left lines _ = ⊥

-- where memory was wanting, the file wasn't opened; else it was asked for
abbrev pub AsksFile : ℕ → OutcomeView → Type 0
AsksFile opened (Failed faults.NoMemory) = opened ≡ 0
AsksFile opened outcome = opened ≡ 1

-- a run of the command, with what is told of TRACE before it and afterwards
abbrev pub DoesShow : ShowArguments → ℕ → List File → List File → List ℕ → OutcomeView → Type 0
DoesShow arguments opened (before ∷ []) (after ∷ []) lines outcome = AsksFile opened outcome × Shows before.page after.left lines outcome
DoesShow arguments opened before after lines outcome = ⊥

-- the command
abbrev pub show : PrintingCommand
show = record { Arguments = ShowArguments; IsForm = IsShowForm; files = files_of_show; Does = DoesShow }
