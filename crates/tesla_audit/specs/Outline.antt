-- What a trace's bytes come to: whole entries, and the first refused place.
use Rattle.std.specs.Prelude.{ℕ, List, Option, Some, None}
use Rattle.tesla_receiver.specs.Entries.{Entry}
use Rattle.tesla_records.specs.Records.{Outline, outline_of}
use Rattle.tesla_records.specs.declared.refusal.Refusal.{Refusal}
use Rattle.tesla_trace.specs.Grammar.{trace}
use Rattle.tesla_trace.specs.declared.kind.EntryFault.{EntryFault}
use Rattle.tesla_trace.specs.declared.kind.TraceKind.{TraceKind}
use Rattle.tesla_audit.specs.Steps.{kind_of}

-- the whole entries of a trace before the first place that is refused, and that place with its cause; there is none where the bytes are a trace
pub record TraceOutline : Type 0 where
  -- how many ingests the head tells, where there is one
  pub ingests : Option ℕ
  pub entries : List Entry
  pub fault : Option (ℕ × TraceKind)

-- a refused place with its cause
abbrev pub fault_shown : Option (ℕ × Refusal EntryFault) → Option (ℕ × TraceKind)
fault_shown None = None
fault_shown (Some fault) = Some (fault.0, kind_of fault.1)

-- an outline of the grammar of traces
abbrev pub outline_shown : Outline ℕ Entry EntryFault → TraceOutline
outline_shown outline = record { ingests = outline.head; entries = outline.records; fault = fault_shown outline.fault }

-- the outline of a trace
abbrev pub trace_outline : List ℕ → TraceOutline
trace_outline bytes = outline_shown (outline_of trace bytes)
