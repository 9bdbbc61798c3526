-- A run of the command, from its steps.
use Rattle.std.proofs.Common.{◌≡◌, ◌∙◌, ℕ, Option, Some, Result, Ok, Err, List, [], ◌∷◌, refl, sym, ap, subst}
use Rattle.tesla_desk.specs.Faults.{HasCause}
use Rattle.tesla_desk.specs.Outside.{ClosesSource, OfSource, Opened, OpensSource, Page, Untold, Absent, Holds, Told}
use Rattle.tesla_desk.specs.declared.desk.OpenRefusal.{OpenRefusal}
use Rattle.tesla_desk.specs.declared.desk.OpenRefusal.TheVariants as refused
use Rattle.tesla_desk.proofs.Counts.{causes_opening, causes_plain, causes_source, causes_then, counts_stay}
use Rattle.tesla_desk.proofs.Told.{appends_none}
use Rattle.tesla_front.specs.OutcomeView.{OutcomeView, Done, Usage, Refused, Failed}
use Rattle.tesla_front.specs.Fault.{unopened}
use Rattle.tesla_front.specs.Files.{HoldsWhere}
use Rattle.tesla_front.specs.Openings.{AreFiles, Opens}
use Rattle.tesla_front.specs.Printing.{PerformsPrinting}
use Rattle.tesla_front.specs.declared.fault.Fault.{Fault}
use Rattle.tesla_front.specs.declared.fault.Fault.TheVariants as faults
use Rattle.tesla_front.specs.declared.outcome.Outcome.TheVariants as outcomes
use Rattle.tesla_front.specs.declared.printed.Printed.{Printed}
use Rattle.tesla_front.specs.declared.printed.Printed.TheVariants.{Whole}
use Rattle.tesla_front.proofs.Openings.{opens_first, opens_none, source_closed}
use Rattle.tesla_run_audit.specs.show.Arguments.{ShowArguments, files_of_show}
use Rattle.tesla_run_audit.specs.show.Show.{AsksFile, Shows, show}
use Rattle.tesla_run_audit.specs.show.Steps.{PrintsEntries, ShowsBetween}

-- what is so of the bytes that a source has is so of its page
holds_where : {Fact : List ℕ → Type 0} (input : Page) (before : Option (List ℕ)) → Opened input before → ((bytes : List ℕ) → before ≡ Some bytes → Fact bytes) → HoldsWhere input Fact
holds_where Untold before opened fact = tt
holds_where Absent before opened fact = opened
holds_where (Holds bytes failed) before opened fact = fact bytes opened

-- what was so of an open file is so of its page
pages_shown : (input : Page) (before left : Option (List ℕ)) (lines : List ℕ) (outcome : OutcomeView) → Opened input before → ShowsBetween before left lines outcome → AsksFile 1 outcome × Shows input left lines outcome
pages_shown input before left lines (Done summary) opened is = (refl, holds_where input before opened is)
pages_shown input before left lines Usage opened is = absurd is
pages_shown input before left lines (Refused status line) opened is = (refl, holds_where input before opened is)
pages_shown input before left lines (Failed faults.Read) opened is = (refl, holds_where input before opened is)
pages_shown input before left lines (Failed faults.Write) opened is = absurd is
pages_shown input before left lines (Failed faults.NoMemory) opened is = absurd is
pages_shown input before left lines (Failed faults.Open) opened is = absurd is

no_write : (before left : Option (List ℕ)) (lines : List ℕ) (outcome : OutcomeView) → ShowsBetween before left lines outcome → outcome ≡ Failed faults.Write → ⊥
no_write before left lines outcome is e = subst (λ (c : OutcomeView). ShowsBetween before left lines c) e is

no_open : (before left : Option (List ℕ)) (lines : List ℕ) (outcome : OutcomeView) → ShowsBetween before left lines outcome → outcome ≡ Failed faults.Open → ⊥
no_open before left lines outcome is e = subst (λ (c : OutcomeView). ShowsBetween before left lines c) e is

-- the file was opened, printed and closed
pub performs_opened : {A : Type 0} (arguments : ShowArguments) (source : A) (printed : Printed) (name : List ℕ) (before left : Option (List ℕ)) (fresh reads : ℕ) (written now : Option (List ℕ)) (failed : ℕ) (old opened new : Told) → AreFiles (files_of_show arguments) → name ≡ arguments.trace → fresh ≡ 0
    → Opened (old.page arguments.trace) before → OpensSource {A = A} arguments.trace (Ok source) old opened → PrintsEntries printed before left fresh reads written now failed → ClosesSource name left reads opened new → PerformsPrinting show arguments old new written now failed printed
performs_opened {A} arguments source printed name before left fresh reads written now failed old opened new named name_is none opens_page opens prints closes =
    let same : opened.faults ≡ old.faults = counts_stay old.faults opened.faults opens.counts (λ e. absurd cc) in
    let own : new.left arguments.trace ≡ left = ap new.left (sym name_is) ∙ closes.own in
    let cause : HasCause 0 reads (prints.outcome ≡ Failed faults.Read) = subst (λ (n : ℕ). HasCause n reads (prints.outcome ≡ Failed faults.Read)) none prints.reads_cause in
    let it = pages_shown (old.page arguments.trace) before left prints.lines prints.outcome opens_page prints.shows in
    record {
      named = named;
      opened = 1;
      opens = source_closed arguments.trace name source old opened new left reads name_is opens closes;
      lines = prints.lines;
      outcome = prints.outcome;
      does = (it.0, subst (λ (l : Option (List ℕ)). Shows (old.page arguments.trace) l prints.lines prints.outcome) (sym own) it.1);
      counts = causes_then old.faults opened.faults new.faults same
          (causes_plain opened.faults new.faults (causes_source opened.faults new.faults reads closes.counts cause (λ e. e) (λ e. e) (no_write before left prints.lines prints.outcome prints.shows) (no_open before left prints.lines prints.outcome prints.shows)));
      prints = prints.prints;
    }

opened_by : (refusal : OpenRefusal) → ℕ
opened_by refused.Failed = 1
opened_by refused.NoMemory = 0

asks_by : (refusal : OpenRefusal) → AsksFile (opened_by refusal) (Failed (unopened refusal))
unfolding opened_by
asks_by refused.Failed = refl
asks_by refused.NoMemory = refl

shows_by : (input : Page) (left : Option (List ℕ)) (refusal : OpenRefusal) → Shows input left [] (Failed (unopened refusal))
shows_by input left refused.Failed = refl
shows_by input left refused.NoMemory = refl

opens_by : (A : Type 0) (trace : List ℕ) (refusal : OpenRefusal) (old new : Told) → OpensSource {A = A} trace (Err refusal) old new → Opens (OfSource trace ∷ []) (opened_by refusal) old new
unfolding opened_by
opens_by A trace refused.Failed old new opens = opens_first (OfSource trace) [] old new opens.asked (λ name none. opens.pages name) (λ name none. opens.lefts name)
opens_by A trace refused.NoMemory old new opens = opens_none (OfSource trace ∷ []) old new opens.asked opens.pages opens.lefts

no_read : (refusal : OpenRefusal) → Failed (unopened refusal) ≡ Failed faults.Read → ⊥
no_read refused.Failed e = cc
no_read refused.NoMemory e = cc

never_write : (refusal : OpenRefusal) → Failed (unopened refusal) ≡ Failed faults.Write → ⊥
never_write refused.Failed e = cc
never_write refused.NoMemory e = cc

failed_open : (A : Type 0) (refusal : OpenRefusal) → Failed (unopened refusal) ≡ Failed faults.Open → ◌≡◌ {A = Result A OpenRefusal} (Err refusal) (Err refused.Failed)
failed_open A refused.Failed e = refl
failed_open A refused.NoMemory e = absurd cc

open_failed : (A : Type 0) (refusal : OpenRefusal) → ◌≡◌ {A = Result A OpenRefusal} (Err refusal) (Err refused.Failed) → Failed (unopened refusal) ≡ Failed faults.Open
open_failed A refused.Failed e = refl
open_failed A refused.NoMemory e = absurd cc

-- the file wasn't opened
pub performs_unopened : (A : Type 0) (arguments : ShowArguments) (refusal : OpenRefusal) (fault : Fault) (written : Option (List ℕ)) (failed : ℕ) (old new : Told) → AreFiles (files_of_show arguments) → failed ≡ 0 → fault ≡ unopened refusal
    → OpensSource {A = A} arguments.trace (Err refusal) old new → PerformsPrinting show arguments old new written written failed (Whole (outcomes.Failed fault))
performs_unopened A arguments refusal fault written failed old new named none is opens = record {
  named = named;
  opened = opened_by refusal;
  opens = opens_by A arguments.trace refusal old new opens;
  lines = [];
  outcome = Failed (unopened refusal);
  does = (asks_by refusal, shows_by (old.page arguments.trace) (new.left arguments.trace) refusal);
  counts = causes_plain old.faults new.faults (causes_opening old.faults new.faults opens.counts (no_read refusal) (never_write refusal) (failed_open A refusal) (open_failed A refusal));
  prints = (ap (λ (f : Fault). Failed f) (sym is), none, appends_none written);
}
