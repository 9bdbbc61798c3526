-- One entry is judged, and the next one is read.
use Rattle.std.proofs.Common.{◌≡◌, ◌∙◌, inl, ℕ, zero, suc, ◌+◌, ◌<◌, ◌≤◌, true, false, Option, Some, None, Err, List, [], ◌∷◌, ◌++◌, length, length-append, refl, sym, ap, subst, subst₂, option_map, arith}
use Rattle.std.specs.Prelude.{unwrap_or}
use Rattle.tesla_desk.specs.Faults.{HasCause}
use Rattle.tesla_desk.specs.Outside.{after_bytes}
use Rattle.tesla_desk.proofs.Counts.{cause_as}
use Rattle.tesla_fitting.specs.declared.config.Config.{Config}
use Rattle.tesla_front.specs.OutcomeView.{OutcomeView, Refused, Failed}
use Rattle.tesla_front.specs.Refusal.{IsRefusal}
use Rattle.tesla_front.specs.declared.fault.Fault.TheVariants as faults
use Rattle.tesla_front.specs.declared.refusal.Refusal.{Refusal}
use Rattle.tesla_receiver.specs.History.{IsLegal, entry_of, event_of}
use Rattle.tesla_receiver.specs.Stands.{Stands}
use Rattle.tesla_receiver.specs.Entries.{Entry}
use Rattle.tesla_receiver.specs.declared.history.Entry.TheVariants.{Arrived, Taken, Ended}
use Rattle.tesla_records.specs.Found.{AwaitsAt}
use Rattle.tesla_records.specs.Records.{record_offset}
use Rattle.tesla_records.specs.Steps.{Gives, Moves, MovesHead, Progress, ReadsHead, ahead, goes_on, pending}
use Rattle.tesla_records.specs.Taken.{IsTaken}
use Rattle.tesla_records.proofs.Taken.{given_taken, none_taken}
use Rattle.tesla_state.specs.State.{State}
use Rattle.tesla_trace.specs.Entries.{entry_in}
use Rattle.tesla_trace.specs.Grammar.{trace}
use Rattle.tesla_trace.specs.Trace.{entry_text}
use Rattle.tesla_trace.specs.declared.entry.EntryBuffer.{EntryBuffer}
use Rattle.tesla_trace.proofs.TraceIs.{trace_is}
use Rattle.tesla_audit.specs.Checks.{Checks, answer_text}
use Rattle.tesla_audit.specs.Steps.{given_in, records_step}
use Rattle.tesla_audit.specs.declared.auditor.Answer.{Answer}
use Rattle.tesla_audit.specs.declared.step.TraceStep.{TraceStep}
use Rattle.tesla_audit.specs.declared.step.TraceStep.TheVariants as steps
use Rattle.tesla_audit.proofs.Answered.{answer_is}
use Rattle.tesla_run_audit.specs.Audit.{AuditsBytes, IsAuditOutcome, audit_of, refuted_line, refuted_text}
use Rattle.tesla_run_audit.specs.Judging.{IsAt, IsBehind, stop_at}
use Rattle.tesla_run_audit.proofs.Audited.{start_stops, stops, wrong_is}

-- ---- what the head tells

same_head : (head : Option ℕ) → option_map (λ (n : ℕ). n) head ≡ head
same_head None = refl
same_head (Some n) = refl

pub moves_head : (offset now : ℕ) (before after : Option ℕ) → MovesHead trace offset (option_map (λ (n : ℕ). n) before) now (option_map (λ (n : ℕ). n) after) → MovesHead trace offset before now after
moves_head offset now before after moves = subst₂ (λ (a b : Option ℕ). MovesHead trace offset a now b) (same_head before) (same_head after) moves

pub reads_head : (offset now : ℕ) (rest : List ℕ) (after : Option ℕ) → ReadsHead trace offset rest now (option_map (λ (n : ℕ). n) after) → ReadsHead trace offset rest now after
reads_head offset now rest after reads = subst (λ (a : Option ℕ). ReadsHead trace offset rest now a) (same_head after) reads

-- ---- steps

pub entry_gave : (step : TraceStep) → goes_on (records_step step) ≡ true → step ≡ steps.Entry
entry_gave steps.Entry e = refl
entry_gave steps.End e = absurd cc
entry_gave (steps.Refused offset kind) e = absurd cc
entry_gave steps.ReadFault e = absurd cc

text_some : (entry : Entry) → 1 ≤ length (entry_text entry)
text_some (Arrived arrival) = omega arith
text_some (Taken releaser reply) = omega arith
text_some (Ended ingest) = omega arith

offset_stays : (offset : ℕ) → offset ≤ record_offset trace offset
offset_stays zero = omega arith
offset_stays (suc offset) = omega arith

-- where an entry was given the reader has moved
pub offset_rises : (step : TraceStep) (entry : EntryBuffer) (offset now : ℕ) → goes_on (records_step step) ≡ true → Moves trace (given_in entry) (records_step step) offset now → offset < now
offset_rises steps.Entry entry offset now e moves = let moved = moves.0 in omega (arith, moved, text_some (entry_in entry), offset_stays offset)
offset_rises steps.End entry offset now e moves = absurd cc
offset_rises (steps.Refused at kind) entry offset now e moves = absurd cc
offset_rises steps.ReadFault entry offset now e moves = absurd cc

pub possible_stop : (step : TraceStep) (count : ℕ) → goes_on (records_step step) ≡ false → IsAuditOutcome (stop_at step count)
possible_stop steps.Entry count e = absurd cc
possible_stop steps.End count e = tt
possible_stop (steps.Refused offset kind) count e = inl refl
possible_stop steps.ReadFault count e = tt

-- a read failed exactly where that is what it came to
stop_failed : (step : TraceStep) (count : ℕ) → stop_at step count ≡ Failed faults.Read → step ≡ steps.ReadFault
stop_failed steps.Entry count e = absurd cc
stop_failed steps.End count e = absurd cc
stop_failed (steps.Refused offset kind) count e = absurd cc
stop_failed steps.ReadFault count e = refl

pub stop_cause : (step : TraceStep) (count : ℕ) (outcome : OutcomeView) (a b : ℕ) → outcome ≡ stop_at step count → HasCause a b (step ≡ steps.ReadFault) → HasCause a b (outcome ≡ Failed faults.Read)
stop_cause step count outcome a b is cause = cause_as a b cause (λ e. stop_failed step count (sym is ∙ e)) (λ e. is ∙ ap (λ (s : TraceStep). stop_at s count) e)

some_outcome : (a b : OutcomeView) → Some a ≡ Some b → a ≡ b
some_outcome a b e = cc

pub some_cause : (outcome : OutcomeView) (a b : ℕ) → HasCause a b (outcome ≡ Failed faults.Read) → HasCause a b (Some outcome ≡ Some (Failed faults.Read))
some_cause outcome a b cause = cause_as a b cause (λ e. some_outcome outcome (Failed faults.Read) e) (λ e. ap (λ (c : OutcomeView). Some c) e)

no_fault : (step : TraceStep) → goes_on (records_step step) ≡ true → step ≡ steps.ReadFault → ⊥
no_fault steps.Entry e is = absurd cc
no_fault steps.End e is = absurd cc
no_fault (steps.Refused offset kind) e is = absurd cc
no_fault steps.ReadFault e is = absurd cc

none_outcome : (outcome : OutcomeView) → ◌≡◌ {A = Option OutcomeView} None (Some outcome) → ⊥
none_outcome outcome e = absurd cc

pub going_cause : (step : TraceStep) (a b : ℕ) → goes_on (records_step step) ≡ true → HasCause a b (step ≡ steps.ReadFault) → HasCause a b (◌≡◌ {A = Option OutcomeView} None (Some (Failed faults.Read)))
going_cause step a b going cause = cause_as a b cause (λ e. absurd (none_outcome (Failed faults.Read) e)) (λ e. absurd (no_fault step going e))

-- ---- the next entry

module _ (cfg : ℕ → Config) (bytes : List ℕ) where
  -- the first entry was read
  start_at : (state : State) (reader : Progress ℕ) (left : Option (List ℕ)) (step : TraceStep) (entry : EntryBuffer) (k : ℕ) → goes_on (records_step step) ≡ true → Gives trace (λ fault. fault) (given_in entry) (records_step step) 0 bytes reader.place (ahead reader left) → MovesHead trace 0 None reader.place reader.head → ReadsHead trace 0 bytes reader.place reader.head
      → 0 < reader.place → reader.head ≡ Some k → state.config ≡ cfg k → Stands state [] → IsAt cfg bytes state reader left (entry_in entry)
  start_at state reader left steps.Entry entry k going gives moves reads placed head config stands = record {
    ingests = k;
    judged = [];
    rest = gives.0;
    config_is = config;
    head_is = head;
    stands = stands;
    placed = placed;
    ahead_is = gives.1;
    taken = subst (λ (o : Option ℕ). IsTaken trace bytes o (entry_in entry ∷ []) reader.place gives.0) head
        (given_taken trace trace_is bytes None reader.head [] 0 bytes (entry_in entry) reader.place (ahead reader left) (none_taken trace trace_is bytes) gives moves reads);
  }
  start_at state reader left steps.End entry k going gives moves reads placed head config stands = absurd cc
  start_at state reader left (steps.Refused offset kind) entry k going gives moves reads placed head config stands = absurd cc
  start_at state reader left steps.ReadFault entry k going gives moves reads placed head config stands = absurd cc

  -- what a first step says of the bytes
  record IsFirst (new : Progress ℕ) (now : Option (List ℕ)) (step : TraceStep) (entry : EntryBuffer) : Type 0 where
    gives : Gives trace (λ fault. fault) (given_in entry) (records_step step) 0 bytes new.place (ahead new now)
    moves : MovesHead trace 0 None new.place new.head
    reads : ReadsHead trace 0 bytes new.place new.head

  module _ (old new : Progress ℕ) (left now : Option (List ℕ)) (step : TraceStep) (entry : EntryBuffer) (none : pending old ≡ []) (offset : old.place ≡ 0) (head : old.head ≡ None) (told : left ≡ Some bytes)
      (gives : (rest : List ℕ) → ahead old left ≡ Some rest → Gives trace (λ fault. fault) (given_in entry) (records_step step) old.place rest new.place (ahead new now)) (moves : MovesHead trace old.place old.head new.place new.head)
      (reads : (rest : List ℕ) → ahead old left ≡ Some rest → ReadsHead trace old.place rest new.place new.head) where
    is_first : IsFirst new now step entry
    is_first =
        let ahead_is : ahead old left ≡ Some bytes = ap (λ (p : List ℕ). after_bytes p left) none ∙ ap (after_bytes []) told in
        record {
          gives = subst (λ (p : ℕ). Gives trace (λ fault. fault) (given_in entry) (records_step step) p bytes new.place (ahead new now)) offset (gives bytes ahead_is);
          moves = subst (λ (h : Option ℕ). MovesHead trace 0 h new.place new.head) head (subst (λ (p : ℕ). MovesHead trace p old.head new.place new.head) offset moves);
          reads = subst (λ (p : ℕ). ReadsHead trace p bytes new.place new.head) offset (reads bytes ahead_is);
        }

    -- it gave no entry
    pub first_stops : (outcome : OutcomeView) → goes_on (records_step step) ≡ false → outcome ≡ stop_at step 0 → (step ≡ steps.ReadFault → AwaitsAt trace new.place (pending new)) → AuditsBytes cfg bytes now outcome
    first_stops outcome stopped is cut =
        subst (λ (c : OutcomeView). AuditsBytes cfg bytes now c) (sym is) (start_stops cfg bytes step entry new now stopped is_first.gives is_first.moves is_first.reads cut)

    -- it gave one
    pub first_at : (state : State) (n : ℕ) → goes_on (records_step step) ≡ true → Moves trace (given_in entry) (records_step step) old.place new.place → n ≡ unwrap_or new.head 0 → state.config ≡ cfg n → Stands state [] → IsAt cfg bytes state new now (entry_in entry)
    first_at state n going moved counted config stands =
        let rises = offset_rises step entry old.place new.place going moved in
        let some : 0 < new.place = omega (arith, rises) in
        let known = is_first.moves.read refl some in
        let same : n ≡ known.0 = counted ∙ ap (λ (h : Option ℕ). unwrap_or h 0) known.1 in
        start_at state new now step entry known.0 going is_first.gives is_first.moves is_first.reads some known.1 (config ∙ ap cfg same) stands

  -- another entry was read
  pub read_at : (count : ℕ) (state : State) (old new : Progress ℕ) (left now : Option (List ℕ)) (step : TraceStep) (entry : EntryBuffer) → goes_on (records_step step) ≡ true → (b : IsBehind cfg bytes count state old left) → Gives trace (λ fault. fault) (given_in entry) (records_step step) old.place b.rest new.place (ahead new now) → MovesHead trace old.place old.head new.place new.head → ReadsHead trace old.place b.rest new.place new.head
      → old.place < new.place → IsAt cfg bytes state new now (entry_in entry)
  read_at count state old new left now steps.Entry entry going b gives moves reads rises =
      let head : new.head ≡ Some b.ingests = moves.kept b.placed ∙ b.head_is in
      let known = subst (λ (o : Option ℕ). MovesHead trace old.place o new.place new.head) b.head_is moves in
      record {
        ingests = b.ingests;
        judged = b.judged;
        rest = gives.0;
        config_is = b.config_is;
        head_is = head;
        stands = b.stands;
        placed = omega (arith, rises);
        ahead_is = gives.1;
        taken = subst (λ (o : Option ℕ). IsTaken trace bytes o (b.judged ++ entry_in entry ∷ []) new.place gives.0) head
            (given_taken trace trace_is bytes (Some b.ingests) new.head b.judged old.place b.rest (entry_in entry) new.place (ahead new now) b.taken gives known reads);
      }
  read_at count state old new left now steps.End entry going b gives moves reads rises = absurd cc
  read_at count state old new left now (steps.Refused offset kind) entry going b gives moves reads rises = absurd cc
  read_at count state old new left now steps.ReadFault entry going b gives moves reads rises = absurd cc

  -- there is no other entry
  pub read_stops : (count : ℕ) (state : State) (old new : Progress ℕ) (left now : Option (List ℕ)) (step : TraceStep) (entry : EntryBuffer) (outcome : OutcomeView) → goes_on (records_step step) ≡ false → outcome ≡ stop_at step count → (b : IsBehind cfg bytes count state old left) → Gives trace (λ fault. fault) (given_in entry) (records_step step) old.place b.rest new.place (ahead new now) → MovesHead trace old.place old.head new.place new.head → ReadsHead trace old.place b.rest new.place new.head
      → (step ≡ steps.ReadFault → AwaitsAt trace new.place (pending new)) → AuditsBytes cfg bytes now outcome
  read_stops count state old new left now step entry outcome none is b gives moves reads cut =
      let known = subst (λ (o : Option ℕ). MovesHead trace old.place o new.place new.head) b.head_is moves in
      let legal : IsLegal (cfg b.ingests) b.judged = subst (λ (c : Config). IsLegal c b.judged) b.config_is b.stands.legal in
      subst (λ (c : OutcomeView). AuditsBytes cfg bytes now c) (sym (is ∙ ap (stop_at step) b.counted))
      (stops cfg bytes b.ingests b.judged old.place b.rest b.taken step entry new now none b.placed legal gives known reads cut)

  -- ---- the entry that is judged

  -- it is right
  pub checked_right : (count : ℕ) (state after : State) (reader : Progress ℕ) (left : Option (List ℕ)) (next : Entry) → (a : IsAt cfg bytes state reader left next) → next ≡ entry_of state.config a.judged (event_of next) → Stands after (a.judged ++ entry_of state.config a.judged (event_of next) ∷ []) → after.config ≡ state.config → count ≡ state.calls + 1 → IsBehind cfg bytes count after reader left
  checked_right count state after reader left next a right stands config counted = record {
    ingests = a.ingests;
    judged = a.judged ++ next ∷ [];
    rest = a.rest;
    counted = (let calls = a.stands.calls in omega (arith, counted, calls, length-append a.judged (next ∷ [])));
    config_is = config ∙ a.config_is;
    head_is = a.head_is;
    stands = subst (λ (e : Entry). Stands after (a.judged ++ e ∷ [])) (sym right) stands;
    placed = a.placed;
    ahead_is = a.ahead_is;
    taken = a.taken;
  }

  -- it is wrong
  pub checked_wrong : (number : ℕ) (state : State) (reader : Progress ℕ) (left : Option (List ℕ)) (next : Entry) (answer : Answer) (refusal : Refusal) → (a : IsAt cfg bytes state reader left next) → Checks state.config a.judged next (Err answer) → number ≡ state.calls → IsRefusal 8 (refuted_text number (answer_text answer)) refusal → Refused refusal.status refusal.line.bytes ≡ audit_of cfg bytes
  checked_wrong number state reader left next answer refusal a checks counted is =
      let c : Config = cfg a.ingests in
      let legal : IsLegal c a.judged = subst (λ (x : Config). IsLegal x a.judged) a.config_is a.stands.legal in
      let here : Checks c a.judged next (Err answer) = subst (λ (x : Config). Checks x a.judged next (Err answer)) a.config_is checks in
      let right : Entry = entry_of c a.judged (event_of next) in
      let told : refuted_text number (answer_text answer) ≡ refuted_line (length a.judged, right) =
      ap (λ (n : ℕ). refuted_text n (answer_text answer)) (counted ∙ a.stands.calls) ∙ ap (refuted_text (length a.judged)) (sym (answer_is right answer here.1)) in
      ap (λ (s : ℕ). Refused s refusal.line.bytes) is.status_is ∙ ap (λ (l : List ℕ). Refused 8 l) (is.line_is ∙ told)
      ∙ sym (wrong_is cfg bytes a.ingests a.judged next reader.place a.rest a.taken legal here.0)
