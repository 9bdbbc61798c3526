-- The outline of bytes has no refused place exactly where they spell a trace.
use Rattle.std.proofs.Common.{◌≡◌, ℕ, List, Option, Some, None, refl, ap}
use Rattle.tesla_base.specs.Prefix.{AreBytes}
use Rattle.tesla_receiver.specs.Entries.{Entry}
use Rattle.tesla_records.specs.Records.{outline_of}
use Rattle.tesla_records.specs.declared.refusal.Refusal.{Refusal}
use Rattle.tesla_records.proofs.OutlineIsFile.{file_again, file_takes}
use Rattle.tesla_trace.specs.Grammar.{IsTrace, trace}
use Rattle.tesla_trace.specs.declared.kind.EntryFault.{EntryFault}
use Rattle.tesla_trace.proofs.TraceIs.{trace_is}
use Rattle.tesla_audit.specs.Outline.{fault_shown, outline_shown, trace_outline}

none_faulty : (fault : Option (ℕ × Refusal EntryFault)) → fault_shown fault ≡ None → fault ≡ None
none_faulty None e = refl
none_faulty (Some fault) e = absurd cc

pub trace_found : (bytes : List ℕ) → AreBytes bytes → (trace_outline bytes).fault ≡ None → (ingests : ℕ) × ((trace_outline bytes).ingests ≡ Some ingests) × IsTrace bytes ingests (trace_outline bytes).entries
trace_found bytes are e = file_takes trace trace_is bytes are (none_faulty (outline_of trace bytes).fault e)

pub trace_again : (bytes : List ℕ) (ingests : ℕ) (history : List Entry) → IsTrace bytes ingests history → trace_outline bytes ≡ record { ingests = Some ingests; entries = history; fault = None }
trace_again bytes ingests history is = ap outline_shown (file_again trace trace_is bytes ingests history is)
