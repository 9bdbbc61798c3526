-- What was held was written at last.
use Rattle.std.proofs.Common.{◌≡◌, ◌∙◌, ◌⊎◌, inl, inr, ℕ, Option, Some, None, List, [], ◌++◌, refl, sym, ap, subst}
use Rattle.tesla_capture.specs.Gathering.{Gathers}
use Rattle.tesla_desk.specs.Faults.{HasCause}
use Rattle.tesla_desk.specs.Outside.{AppendsPrefix, with_bytes}
use Rattle.tesla_desk.proofs.Counts.{cause_as}
use Rattle.tesla_desk.proofs.Told.{prefix_after, prefix_longer, with_bytes_twice}
use Rattle.tesla_front.specs.OutcomeView.{OutcomeView, Done, Failed}
use Rattle.tesla_front.specs.Printing.{IsFault, IsSound, PrintsLines}
use Rattle.tesla_front.specs.declared.fault.Fault.{Fault}
use Rattle.tesla_front.specs.declared.fault.Fault.TheVariants as faults
use Rattle.tesla_front.specs.declared.printed.Printed.{Printed}
use Rattle.tesla_front.specs.declared.printed.Printed.TheVariants.{Whole, Broken}
use Rattle.tesla_front.proofs.Reported.{rose_some}
use Rattle.tesla_trace.specs.declared.kind.TraceKind.{TraceKind}
use Rattle.tesla_run_audit.specs.show.Show.{refused_outcome, show_end, show_text}
use Rattle.tesla_run_audit.specs.show.Steps.{PrintsEntries, Settles, SettlesHeld, ShowsBetween, ShowsTo, SoundFor, outcome_listed, fault_listed}
use Rattle.tesla_run_audit.specs.declared.show.listing.Listed.{Listed}
use Rattle.tesla_run_audit.specs.declared.show.listing.Listed.TheVariants as listed
use Rattle.tesla_run_audit.proofs.show.Shown.{show_end_is, show_end_sound}

-- a write failed exactly where that is what came
pub sound_for : (told : Listed) (old new : ℕ) → old ≡ 0 → HasCause old new (told ≡ listed.WriteFault) → SoundFor told new
sound_for listed.End old new none cause = cause.still (λ e. cc) ∙ none
sound_for (listed.Refused offset kind) old new none cause = cause.still (λ e. cc) ∙ none
sound_for listed.ReadFault old new none cause = cause.still (λ e. cc) ∙ none
sound_for listed.WriteFault old new none cause = rose_some old new none (cause.rose refl)

sound_held : (told : Listed) (printed : Printed) (before now : Option (List ℕ)) (held : List ℕ) (failed : ℕ) → SettlesHeld told printed before now held failed → IsSound printed failed
sound_held told (Whole outcome) before now held failed it = it.2
sound_held told (Broken fault) before now held failed it = tt

-- where all lines were written, no write failed
pub sound_settled : (told : Listed) (printed : Printed) (before now : Option (List ℕ)) (held : List ℕ) (failed : ℕ) → Settles told printed before now held failed → IsSound printed failed
sound_settled listed.End printed before now held failed it = sound_held listed.End printed before now held failed it
sound_settled (listed.Refused offset kind) printed before now held failed it = sound_held (listed.Refused offset kind) printed before now held failed it
sound_settled listed.ReadFault printed before now held failed it = sound_held listed.ReadFault printed before now held failed it
sound_settled listed.WriteFault printed before now held failed it = subst (λ (p : Printed). IsSound p failed) (sym it.0) tt

-- what was held behind what was written
whole_text : (first before now : Option (List ℕ)) (held text : List ℕ) → Gathers first before held text → now ≡ with_bytes before held → now ≡ with_bytes first text
whole_text first before now held text gathers written =
    written ∙ ap (λ (w : Option (List ℕ)). with_bytes w held) gathers.written ∙ with_bytes_twice first gathers.done held ∙ ap (with_bytes first) (sym gathers.both)

part_text : (first before now : Option (List ℕ)) (held text : List ℕ) → Gathers first before held text → AppendsPrefix before now held → AppendsPrefix first now text
part_text first before now held text gathers prefix =
    subst (λ (t : List ℕ). AppendsPrefix first now t) (sym gathers.both) (prefix_after first before now gathers.done held gathers.written prefix)

-- the lines of all, and what comes behind them
prints_end : (told : Listed) (outcome : OutcomeView) (printed : Printed) (first before now : Option (List ℕ)) (held text : List ℕ) (failed : ℕ) → outcome ≡ outcome_listed told → (IsFault outcome → ⊥) → fault_listed told ≡ faults.Write
    → Gathers first before held text → SettlesHeld told printed before now held failed → PrintsLines text outcome printed first now failed
prints_end told outcome (Whole whole) first before now held text failed is sound write gathers it = (is ∙ sym it.0, it.2, whole_text first before now held text gathers it.1)
prints_end told outcome (Broken fault) first before now held text failed is sound write gathers it = (inr (it.0 ∙ write, sound), it.2, part_text first before now held text gathers it.1)

prints_read : (printed : Printed) (first before now : Option (List ℕ)) (held text : List ℕ) (failed : ℕ) → Gathers first before held text → SettlesHeld listed.ReadFault printed before now held failed → PrintsLines text (Failed faults.Read) printed first now failed
prints_read (Whole outcome) first before now held text failed gathers it = (sym it.0, it.2, whole_text first before now held text gathers it.1)
prints_read (Broken fault) first before now held text failed gathers it = (inl (ap (λ (f : Fault). Failed f) (sym it.0)), it.2, part_text first before now held text gathers it.1)

-- a write of the lines failed: the lines are those of the file, where that is told
record Broke (before left : Option (List ℕ)) (first now : Option (List ℕ)) : Type 0 where
  lines : List ℕ
  outcome : OutcomeView
  shows : ShowsBetween before left lines outcome
  sound : IsFault outcome → ⊥
  prefix : AppendsPrefix first now lines

shows_outcome : (bytes : List ℕ) (left : Option (List ℕ)) (outcome : OutcomeView) → show_end bytes ≡ outcome → (outcome ≡ Done []) ⊎ ((offset : ℕ) × (kind : TraceKind) × (outcome ≡ refused_outcome offset kind)) → ShowsBetween (Some bytes) left (show_text bytes) outcome
shows_outcome bytes left outcome e (inl end) =
    subst (λ (c : OutcomeView). ShowsBetween (Some bytes) left (show_text bytes) c) (sym end) (λ other same. let one : bytes ≡ other = cc in (ap show_text one, sym end ∙ sym e ∙ ap show_end one))
shows_outcome bytes left outcome e (inr (offset, kind, end)) =
    subst (λ (c : OutcomeView). ShowsBetween (Some bytes) left (show_text bytes) c) (sym end) (λ other same. let one : bytes ≡ other = cc in (ap show_text one, sym end ∙ sym e ∙ ap show_end one))

broke : (before left first now : Option (List ℕ)) (text : List ℕ) → AppendsPrefix first now text → ((bytes : List ℕ) → before ≡ Some bytes → (more : List ℕ) × (show_text bytes ≡ text ++ more)) → Broke before left first now
broke None left first now text prefix is = record { lines = text; outcome = Done []; shows = λ bytes e. absurd cc; sound = λ no. no; prefix = prefix }
broke (Some bytes) left first now text prefix is =
    let it = is bytes refl in
    record {
      lines = show_text bytes;
      outcome = show_end bytes;
      shows = shows_outcome bytes left (show_end bytes) refl (show_end_is bytes);
      sound = show_end_sound bytes;
      prefix = subst (λ (t : List ℕ). AppendsPrefix first now t) (sym it.1) (prefix_longer first now text it.0 prefix);
    }

sound_read : (outcome : OutcomeView) → (IsFault outcome → ⊥) → outcome ≡ Failed faults.Read → ⊥
sound_read outcome sound e = sound (subst (λ (c : OutcomeView). IsFault c) (sym e) tt)

-- the entries of the file were printed
pub printed_file : (told : Listed) (printed : Printed) (before left : Option (List ℕ)) (fresh reads : ℕ) (first between now : Option (List ℕ)) (held : List ℕ) (failed : ℕ) → ShowsTo told before left first between held → HasCause fresh reads (told ≡ listed.ReadFault) → Settles told printed between now held failed
    → PrintsEntries printed before left fresh reads first now failed
printed_file listed.End printed before left fresh reads first between now held failed shown cause settles = record {
  lines = shown.text;
  outcome = Done [];
  shows = λ bytes e. let it = shown.is bytes e in (it.0, sym it.1);
  prints = prints_end listed.End (Done []) printed first between now held shown.text failed refl (λ no. no) refl shown.puts settles;
  reads_cause = cause_as fresh reads cause (λ e. absurd cc) (λ e. absurd cc);
}
printed_file (listed.Refused offset kind) printed before left fresh reads first between now held failed shown cause settles = record {
  lines = shown.text;
  outcome = refused_outcome offset kind;
  shows = λ bytes e. let it = shown.is bytes e in (it.0, sym it.1);
  prints = prints_end (listed.Refused offset kind) (refused_outcome offset kind) printed first between now held shown.text failed refl (λ no. no) refl shown.puts settles;
  reads_cause = cause_as fresh reads cause (λ e. absurd cc) (λ e. absurd cc);
}
printed_file listed.ReadFault printed before left fresh reads first between now held failed shown cause settles = record {
  lines = shown.text;
  outcome = Failed faults.Read;
  shows = λ bytes e. shown.is bytes e;
  prints = prints_read printed first between now held shown.text failed shown.puts settles;
  reads_cause = cause_as fresh reads cause (λ e. refl) (λ e. refl);
}
printed_file listed.WriteFault printed before left fresh reads first between now held failed shown cause settles =
    let it = broke before left first now shown.text (subst (λ (w : Option (List ℕ)). AppendsPrefix first w shown.text) (sym settles.1) shown.puts) shown.is in
    record {
      lines = it.lines;
      outcome = it.outcome;
      shows = it.shows;
      prints = subst (λ (p : Printed). PrintsLines it.lines it.outcome p first now failed) (sym settles.0) (inr (refl, it.sound), settles.2, it.prefix);
      reads_cause = cause_as fresh reads cause (λ e. absurd (sound_read it.outcome it.sound e)) (λ e. absurd cc);
    }
