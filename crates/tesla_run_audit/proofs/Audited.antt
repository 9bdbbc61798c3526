-- What the bytes of a trace come to, told the entries that were taken from their front.
use Rattle.std.proofs.Common.{◌≡◌, ◌≢◌, ◌∙◌, ℕ, ◌<◌, false, Option, Some, None, List, [], ◌∷◌, ◌++◌, length, refl, sym, ap, subst, append_assoc}
use Rattle.std.specs.Prelude.{unwrap_or}
use Rattle.std.proofs.lemmas.List.{append-nil}
use Rattle.tesla_desk.proofs.Told.{after_bytes_some}
use Rattle.tesla_fitting.specs.declared.config.Config.{Config}
use Rattle.tesla_front.specs.OutcomeView.{OutcomeView, Refused}
use Rattle.tesla_receiver.specs.History.{IsLegal, entry_of, event_of}
use Rattle.tesla_receiver.specs.Entries.{Entry}
use Rattle.tesla_records.specs.Found.{AwaitsAt}
use Rattle.tesla_records.specs.Records.{AtEnd, Refuses, Outline, outline_at, head_at, with_head, refusal_by}
use Rattle.tesla_records.specs.Steps.{Gives, MovesHead, Progress, ReadsHead, ahead, goes_on, pending}
use Rattle.tesla_records.specs.Taken.{IsReadUpTo, IsTaken}
use Rattle.tesla_records.specs.declared.refusal.Refusal.{Refusal}
use Rattle.tesla_records.proofs.OutlineStep.{one_step}
use Rattle.tesla_records.proofs.Taken.{fault_taken, none_taken, taken_outline}
use Rattle.tesla_trace.specs.Grammar.{trace}
use Rattle.tesla_trace.specs.declared.entry.EntryBuffer.{EntryBuffer}
use Rattle.tesla_trace.specs.declared.kind.EntryFault.{EntryFault}
use Rattle.tesla_trace.specs.declared.kind.TraceKind.{TraceKind}
use Rattle.tesla_trace.specs.declared.kind.TraceKind.TheVariants as kinds
use Rattle.tesla_trace.proofs.TraceIs.{trace_is}
use Rattle.tesla_audit.specs.Outline.{TraceOutline, fault_shown, outline_shown, trace_outline}
use Rattle.tesla_audit.specs.Steps.{given_in, kind_of, records_step, refusal_of}
use Rattle.tesla_audit.specs.Wrong.{first_wrong}
use Rattle.tesla_audit.specs.declared.step.TraceStep.{TraceStep}
use Rattle.tesla_audit.specs.declared.step.TraceStep.TheVariants as steps
use Rattle.tesla_audit.proofs.Wrongs.{legal_none, wrong_there}
use Rattle.tesla_run_audit.specs.Audit.{AuditsBytes, StopsReading, audit_of, audit_outcome, outcome_with, end_outcome, refuted_line}
use Rattle.tesla_run_audit.specs.Judging.{stop_at}

-- a refusal of the file and its kind
kind_back : (kind : TraceKind) → kind_of (refusal_by (λ (f : EntryFault). f) (refusal_of kind)) ≡ kind
kind_back kinds.BadHead = refl
kind_back kinds.BadKind = refl
kind_back kinds.Truncated = refl
kind_back kinds.TooLong = refl
kind_back kinds.TooLarge = refl
kind_back kinds.BadCode = refl

-- an outline that has no entries and this fault
abbrev no_more : Option (ℕ × Refusal EntryFault) → Outline ℕ Entry EntryFault
no_more fault = record { head = None; records = []; fault = fault }

-- the outline of the entries that were taken and of the rest
abbrev with_taken : ℕ → List Entry → Outline ℕ Entry EntryFault → TraceOutline
with_taken k h o = record { ingests = Some k; entries = h ++ o.records; fault = fault_shown o.fault }

module _ (cfg : ℕ → Config) (bytes : List ℕ) where
  -- ---- at the front

  start_is : (head : Option ℕ) (fault : Option (ℕ × Refusal EntryFault)) → outline_at trace 0 bytes ≡ with_head head (no_more fault) → audit_of cfg bytes ≡ end_outcome (fault_shown fault) 0
  start_is head fault e = ap (λ (o : Outline ℕ Entry EntryFault). audit_outcome cfg (outline_shown o)) e

  start_read : (left : Option (List ℕ)) (behind : List ℕ) (head : Option ℕ) → left ≡ Some behind → IsReadUpTo trace bytes behind head [] → StopsReading cfg bytes left
  start_read left behind head is it = record {
    read = it.read;
    rest = behind;
    left_is = is;
    parts = it.whole;
    unrefused = it.unrefused;
    legal = subst (λ (r : List Entry). IsLegal (cfg (unwrap_or (trace_outline it.read).ingests 0)) r) (sym it.records_are) tt;
  }

  -- where a first step gives no entry
  pub start_stops : (step : TraceStep) (entry : EntryBuffer) (reader : Progress ℕ) (left : Option (List ℕ)) → goes_on (records_step step) ≡ false → Gives trace (λ fault. fault) (given_in entry) (records_step step) 0 bytes reader.place (ahead reader left) → MovesHead trace 0 None reader.place reader.head → ReadsHead trace 0 bytes reader.place reader.head
      → (step ≡ steps.ReadFault → AwaitsAt trace reader.place (pending reader)) → AuditsBytes cfg bytes left (stop_at step 0)
  start_stops steps.Entry entry reader left none gives moves reads cut = absurd cc
  start_stops steps.End entry reader left none gives moves reads cut = sym (start_is (head_at trace 0 bytes) None (one_step trace trace_is 0 bytes AtEnd gives.0))
  start_stops (steps.Refused offset kind) entry reader left none gives moves reads cut =
      let refusal = refusal_by (λ (f : EntryFault). f) (refusal_of kind) in
      sym (start_is (head_at trace 0 bytes) (Some (offset, refusal)) (one_step trace trace_is 0 bytes (Refuses offset refusal) gives.0) ∙ ap (λ (k : TraceKind). end_outcome (Some (offset, k)) 0) (kind_back kind))
  start_stops steps.ReadFault entry reader left none gives moves reads cut =
      let behind = after_bytes_some (pending reader) left gives.0 gives.1 in
      start_read left behind.0 reader.head behind.1
      (fault_taken trace trace_is bytes None reader.head [] 0 bytes reader.place (pending reader) left behind.0 (none_taken trace trace_is bytes) gives moves reads (cut refl) behind.1)

  -- ---- behind entries

  module _ (k : ℕ) (h : List Entry) (offset : ℕ) (rest : List ℕ) (taken : IsTaken trace bytes (Some k) h offset rest) where
    known : trace_outline bytes ≡ with_taken k h (outline_at trace offset rest)
    known = ap outline_shown (taken_outline trace trace_is bytes (Some k) h offset rest taken)

    -- no entry more, and all are right
    stopped_is : (head : Option ℕ) (fault : Option (ℕ × Refusal EntryFault)) → IsLegal (cfg k) h → outline_at trace offset rest ≡ with_head head (no_more fault) → audit_of cfg bytes ≡ end_outcome (fault_shown fault) (length h)
    stopped_is head fault legal e =
        ap (audit_outcome cfg) known
        ∙ ap (λ (o : Outline ℕ Entry EntryFault). audit_outcome cfg (with_taken k h o)) e
        ∙ ap (λ (l : List Entry). outcome_with (first_wrong (cfg k) l) (end_outcome (fault_shown fault) (length l))) (append-nil h)
        ∙ ap (λ (w : Option (ℕ × Entry)). outcome_with w (end_outcome (fault_shown fault) (length h))) (legal_none (cfg k) h legal)

    read_stops : (left : Option (List ℕ)) (behind : List ℕ) (head : Option ℕ) → IsLegal (cfg k) h → head ≡ Some k → left ≡ Some behind → IsReadUpTo trace bytes behind head h → StopsReading cfg bytes left
    read_stops left behind head legal head_is is it = record {
      read = it.read;
      rest = behind;
      left_is = is;
      parts = it.whole;
      unrefused = it.unrefused;
      legal = subst (λ (r : List Entry). IsLegal (cfg (unwrap_or (trace_outline it.read).ingests 0)) r) (sym it.records_are) (subst (λ (o : Option ℕ). IsLegal (cfg (unwrap_or o 0)) h) (sym (it.head_is ∙ head_is)) legal);
    }

    -- where a step behind entries gives no other one
    pub stops : (step : TraceStep) (entry : EntryBuffer) (reader : Progress ℕ) (left : Option (List ℕ)) → goes_on (records_step step) ≡ false → 0 < offset → IsLegal (cfg k) h → Gives trace (λ fault. fault) (given_in entry) (records_step step) offset rest reader.place (ahead reader left) → MovesHead trace offset (Some k) reader.place reader.head → ReadsHead trace offset rest reader.place reader.head
        → (step ≡ steps.ReadFault → AwaitsAt trace reader.place (pending reader)) → AuditsBytes cfg bytes left (stop_at step (length h))
    stops steps.Entry entry reader left none some legal gives moves reads cut = absurd cc
    stops steps.End entry reader left none some legal gives moves reads cut = sym (stopped_is (head_at trace offset rest) None legal (one_step trace trace_is offset rest AtEnd gives.0))
    stops (steps.Refused at kind) entry reader left none some legal gives moves reads cut =
        let refusal = refusal_by (λ (f : EntryFault). f) (refusal_of kind) in
        sym (stopped_is (head_at trace offset rest) (Some (at, refusal)) legal (one_step trace trace_is offset rest (Refuses at refusal) gives.0) ∙ ap (λ (one : TraceKind). end_outcome (Some (at, one)) (length h)) (kind_back kind))
    stops steps.ReadFault entry reader left none some legal gives moves reads cut =
        let behind = after_bytes_some (pending reader) left gives.0 gives.1 in
        read_stops left behind.0 reader.head legal (moves.kept some) behind.1
        (fault_taken trace trace_is bytes (Some k) reader.head h offset rest reader.place (pending reader) left behind.0 taken gives moves reads (cut refl) behind.1)

  -- the entry that was taken last is wrong
  pub wrong_is : (k : ℕ) (judged : List Entry) (next : Entry) (offset : ℕ) (rest : List ℕ) → IsTaken trace bytes (Some k) (judged ++ next ∷ []) offset rest → IsLegal (cfg k) judged → entry_of (cfg k) judged (event_of next) ≢ next
      → audit_of cfg bytes ≡ Refused 8 (refuted_line (length judged, entry_of (cfg k) judged (event_of next)))
  wrong_is k judged next offset rest taken legal other =
      let o = outline_at trace offset rest in
      let end : OutcomeView = end_outcome (fault_shown o.fault) (length ((judged ++ next ∷ []) ++ o.records)) in
      ap (audit_outcome cfg) (known k (judged ++ next ∷ []) offset rest taken)
      ∙ ap (λ (l : List Entry). outcome_with (first_wrong (cfg k) l) end) (append_assoc judged (next ∷ []) o.records)
      ∙ ap (λ (w : Option (ℕ × Entry)). outcome_with w end) (wrong_there (cfg k) judged next o.records legal other)
